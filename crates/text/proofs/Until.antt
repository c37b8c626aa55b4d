-- Laws of until: how a search from a place on goes, and what it finds.
use Rattle.std.proofs.Common.{◌≡◌, refl, nat_lt, ◌+◌, Option, Some, None, ℕ, zero, suc, ◌≤◌, Bool, true, false, cond, nat_eq, eqb, List, [], ◌∷◌, length, drop, position, unwrap_or, drop_of_length-le, arith}
use Rattle.std.specs.List.{position_or_len}
use Rattle.std.proofs.lemmas.List.Recursion.{is_position_or_len}
use Rattle.std.proofs.lemmas.Bool.Decides.{nat_tests}
use Rattle.text.specs.Lines.{until}

-- it stops at the end at the latest
pub until_le : (b : ℕ) (t : List ℕ) → until b t ≤ length t
unfolding until
until_le b [] = omega arith
until_le b (x ∷ xs) = go (eqb x b) (until_le b xs)
  where
    go : (c : Bool) → until b xs ≤ length xs → elim c [ true ↦ zero | false ↦ suc (until b xs) ] ≤ suc (length xs)
    go true h = omega arith
    go false h = omega arith

first_onward : (b x : ℕ) (xs : List ℕ) → until b (x ∷ xs) ≡ cond (eqb x b) 0 (1 + until b xs)
unfolding until
first_onward b x xs = go (eqb x b) refl
  where
    go : (t : Bool) → eqb x b ≡ t → until b (x ∷ xs) ≡ cond t 0 (1 + until b xs)
    go true e = rw (until, e)
    go false e = rw (until, e) (omega arith)

-- it is what a search for the first b answers
pub until_first : (b : ℕ) (s : List ℕ) (r : Option ℕ) → r ≡ position (λ x. nat_eq x b) s → unwrap_or r (length s) ≡ until b s
unfolding until
until_first b s r e =
    let u = is_position_or_len (until b) (λ x. nat_eq x b) refl (first_onward b) s in
    rw (e, u) (go (position_or_len (λ x. nat_eq x b) s) (length s) (rw (← u) (until_le b s)))
  where
    go : (i n : ℕ) → i ≤ n → unwrap_or (cond (nat_lt i n) (Some i) None) n ≡ i
    go i n h = grind (arith, nat_tests)

-- past the end there is nothing to find
pub until_past : (b : ℕ) (s : List ℕ) (i : ℕ) → length s ≤ i → until b (drop i s) ≡ 0
unfolding until
until_past b s i h = rw (drop_of_length-le s h)
