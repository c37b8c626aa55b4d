-- Laws of filling the rest of a buffer: when there is room, and what stands there then.
use Rattle.std.proofs.Common.{◌≡◌, ℕ, ◌+◌, ◌-◌, ◌≤◌, ◌<◌, List, ◌++◌, Bool, true, false, length, take, drop, length-drop, drop-drop, refl, sym, arith}
use Rattle.std.specs.Prelude.{Some, None}
use borrow.Author.Tests.{leb-true, leb-false}
use Rattle.line.specs.Filled.{has_room, fill_after, out_after}

-- a line that fits, and one that is longer
module _ (out : List ℕ) (fill : ℕ) (line : List ℕ) where
  room : length line ≤ length (drop fill out) → has_room out fill line ≡ true
  unfolding has_room
  room h = go (has_room out fill line) refl
    where
      go : (b : Bool) → has_room out fill line ≡ b → has_room out fill line ≡ true
      go true t = t
      go false t = absurd (omega (arith, leb-false))

  no_room : length (drop fill out) < length line → has_room out fill line ≡ false
  unfolding has_room
  no_room h = go (has_room out fill line) refl
    where
      go : (b : Bool) → has_room out fill line ≡ b → has_room out fill line ≡ false
      go true t = absurd (omega (arith, leb-true))
      go false t = t

  pub fill_room : length line ≤ length (drop fill out) → fill_after out fill line ≡ Some (fill + length line)
  unfolding fill_after
  fill_room h = rw (fill_after, room h)

  pub out_room : length line ≤ length (drop fill out) → out_after out fill line ≡ take fill out ++ (line ++ drop (fill + length line) out)
  unfolding out_after
  out_room h = rw (out_after, room h)

  pub fill_none : length (drop fill out) < length line → fill_after out fill line ≡ None
  unfolding fill_after
  fill_none h = rw (fill_after, no_room h)

  pub out_none : length (drop fill out) < length line → out_after out fill line ≡ out
  unfolding out_after
  out_none h = rw (out_after, no_room h)

  -- the line in place of as many bytes behind the fill
  pub out_put : {ys : List ℕ} → ys ≡ line → length line ≤ length (drop fill out)
      → take fill out ++ (ys ++ drop (fill + length line - fill) (drop fill out)) ≡ out_after out fill line
  out_put e h =
      let k : fill + length line - fill ≡ length line = omega arith in
      rw (e, k, drop-drop) (sym (out_room h))

  -- a new fill is within the buffer
  pub fill_within : fill ≤ length out → (m : ℕ) → Some m ≡ fill_after out fill line → m ≤ length out
  unfolding fill_after has_room
  fill_within l m e = go (has_room out fill line) refl e
    where
      go : (b : Bool) → has_room out fill line ≡ b → Some m ≡ elim b [ true ↦ Some (fill + length line) | false ↦ None ] → m ≤ length out
      go true t q =
          let k : m ≡ fill + length line = cc in
          omega (arith, leb-true (length line) (length (drop fill out)) t, length-drop fill out)
      go false t q = absurd cc
