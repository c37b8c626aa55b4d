-- Laws of a part as it is lent, and of the place that a search finds.
use Rattle.std.proofs.Common.{◌≡◌, ℕ, suc, ◌+◌, ◌-◌, ◌≤◌, List, length, take, drop, length-drop, take_all, length-take-le, add-one, sym, ◌∙◌, arith}
use native.Mathlib.Nat.{zero-add}
use Rattle.text.specs.Lines.{until}
use Rattle.text.proofs.Parted.{Parted, Whole, parted, whole}
use Rattle.text.proofs.Until.{until_le}

-- a part that goes to the end is all that follows
pub to_end : (s : List ℕ) (a : ℕ) → take (length s - a) (drop a s) ≡ drop a s
to_end s a = take_all (length s - a) (drop a s) (rw length-drop (omega arith))

pub to_end_next : (s : List ℕ) (a : ℕ) → take (length s - (a + 1)) (drop (a + 1) s) ≡ drop (suc a) s
to_end_next s a = to_end s (a + 1) ∙ rw add-one

-- where a search from the start ends
module _ (b : ℕ) (t : List ℕ) (r : ℕ) (e : r ≡ 0 + until b t) where
  found : r ≡ until b t
  found = e ∙ zero-add (until b t)

  pub found_le : r ≤ length t
  found_le = rw found (until_le b t)

  -- as many bytes stand before it
  pub found_length : r ≡ length (take r t)
  found_length = sym (length-take-le r t found_le)

  pub found_there : (r ≡ length t → ⊥) → Parted b t r
  found_there n = rw found (parted b t (omega (arith, found, found_le)))

  pub found_none : r ≡ length t → Whole b t
  found_none h = whole b t (omega (arith, found))
