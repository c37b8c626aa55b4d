-- The first row that a search over the rows found, or no row, from what the search says ran and from what its test answers.
use Rattle.std.proofs.Common.{◌≡◌, ℕ, ◌<◌, ◌≤◌, Bool, true, false, sym, arith}
use Rattle.std.specs.Prelude.{Option, Some, None}
use Rattle.std.specs.Option.{unwrap_or, MatchOption}
use Rattle.std.specs.Fn.{CalledAt}
use Rattle.std.specs.Iterator.{FindsItem}
use Rattle.std.specs.declared.ops.Range.{Range}
use Rattle.std.proofs.iter.Yields.{nat_range_steps}
use Rattle.std.proofs.lemmas.Iterator.{first_from_Range}
use denote.Param.Members.{Mut}
use denote.Ref.{Bor}
use Rattle.below.specs.Below.{first}
use Rattle.below.proofs.Search.{first_is, first_absent}
use Rattle.plan.specs.Limits.{no_row}
use Rattle.choice.specs.Choice.{or_no_row}
use Rattle.choice.proofs.Columns.{row_there, row_past}

row_found : (n : ℕ) (p : ℕ → Bool) (r : Option ℕ) → MatchOption r ((k : ℕ) → 0 ≤ k → k < n → p k ≡ false) (λ i. (0 ≤ i) × (i < n) × (p i ≡ true) × ((k : ℕ) → 0 ≤ k → k < i → p k ≡ false)) → unwrap_or r no_row ≡ or_no_row n (first n p)
row_found n p None h = rw (first_absent n p (λ k u. h k (omega arith) u)) (sym (row_past n n (omega arith)))
row_found n p (Some i) h = rw (first_is n p i h.1 h.2 (λ k u. h.3 k (omega arith) u)) (sym (row_there n i h.1))

pub row_over : {F : Type 0} {g : Mut F (Bor ℕ × Unit {0}) Bool} (n : ℕ) (p : ℕ → Bool) (u : Range ℕ) (f : F) (r : Option ℕ) → FindsItem nat_range_steps g (record { start = 0; end = n }) f r u
    → ((x : ℕ) (b : Bool) (q : F) → CalledAt g f x b q → (q ≡ f) × (b ≡ p x)) → unwrap_or r no_row ≡ or_no_row n (first n p)
row_over n p u f r ran c =
    row_found n p r
    (first_from_Range (record { start = 0; end = n }) u f r (λ k. p k ≡ true) (λ k. p k ≡ false) ran (λ x q k. sym (c x true q k).1) (λ x q k. ((c x false q k).0, sym (c x false q k).1)))
