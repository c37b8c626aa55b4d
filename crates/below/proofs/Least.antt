-- Laws of least: how a loop that keeps the smallest value so far, and the first number with it, starts and goes on. Laws of a search below a bound.
use Rattle.std.proofs.Common.{◌≡◌, refl, sym, ◌∙◌, ⊎_elim, Bool, true, false, ◌&&◌, ℕ, ◌+◌, ◌≤◌, ◌<◌, eq-or-lt_of_le, lt_of_lt_of_le, arith, ltb, eqb, lt-ltb, ltb-true, eq-eqb, ne_eqb}
use mathlib.Core.Bool.{and-false, and_assoc}
use Rattle.below.specs.Below.{all, any, first}
use Rattle.below.specs.Least.{least}
use Rattle.below.proofs.Search.{all_next, any_none, any_next, any_true, any_of, any_false, first_le, first_passes, first_before, first_most, first_absent, first_is, first_kept}

-- first: it is m, below n or n itself
pub first_at : (n : ℕ) (p : ℕ → Bool) (m : ℕ) → m ≤ n → (m < n → p m ≡ true) → ((j : ℕ) → j < m → p j ≡ false) → first n p ≡ m
first_at n p m l t f =
    ⊎_elim (λ e. first_absent n p (λ j u. f j (rw e u)) ∙ sym e) (λ h. first_is n p m h (t h) f) (eq-or-lt_of_le l)

-- first: of those below m is it a search up to m, as long as that finds one
module _ (n m : ℕ) (p : ℕ → Bool) (l : m ≤ n) where
  pub first_below : first m p < m → first n (λ j. p j && ltb j m) ≡ first m p
  first_below h =
      first_is n (λ j. p j && ltb j m) (first m p) (lt_of_lt_of_le h l)
      (rw (first_passes m p h) (lt-ltb (first m p) m h))
      (λ j u. rw (first_before m p j u))

  pub first_above : m ≤ first m p → first n (λ j. p j && ltb j m) ≡ n
  first_above h = first_absent n (λ j. p j && ltb j m) (λ j u. go j (ltb j m) refl)
    where
      go : (j : ℕ) (b : Bool) → ltb j m ≡ b → (p j && b) ≡ false
      go j true e = rw (first_before m p j (lt_of_lt_of_le (ltb-true j m e) h))
      go j false e = and-false (p j)

pub least_none : (n : ℕ) (f : ℕ → ℕ) → least n 0 f ≡ n
unfolding least
least_none n f = first_absent n (λ l. any 0 (λ j. eqb (f j) l)) (λ l h. any_none (λ j. eqb (f j) l))

module _ (n k : ℕ) (f : ℕ → ℕ) where
  value : ℕ → Bool
  value l = any k (λ j. eqb (f j) l)

  pub least_le : least n k f ≤ n
  unfolding least
  least_le = first_le n (λ l. any k (λ j. eqb (f j) l))

  -- a smaller value at k is the smallest, and k has it first
  pub least_taken : f k < least n k f → least n (k + 1) f ≡ f k
  unfolding least value
  least_taken h =
      first_is n (λ l. any (k + 1) (λ j. eqb (f j) l)) (f k) (lt_of_lt_of_le h (first_le n value))
      (any_of (k + 1) (λ j. eqb (f j) (f k)) k (omega arith) (eq-eqb (f k) (f k) refl))
      (λ l u. rw (any_next, first_before n value l (omega arith)) (ne_eqb (f k) l (λ e. omega arith)))

  pub least_taken_at : f k < least n k f → first (k + 1) (λ j. eqb (f j) (f k)) ≡ k
  unfolding least value
  least_taken_at h =
      first_is (k + 1) (λ j. eqb (f j) (f k)) k (omega arith) (eq-eqb (f k) (f k) refl)
      (any_false k (λ j. eqb (f j) (f k)) (first_before n value (f k) h))

  -- another changes neither
  pub least_kept : least n k f ≤ f k → least n (k + 1) f ≡ least n k f
  unfolding least value
  least_kept h =
      first_at n (λ l. any (k + 1) (λ j. eqb (f j) l)) (first n value) (first_le n value)
      (λ u. rw (any_next, first_passes n value u))
      (λ l u. rw (any_next, first_before n value l u) (ne_eqb (f k) l (λ e. omega arith)))

  -- where the smallest is below n, a number has it
  pub least_reached : least n k f < n → first k (λ j. eqb (f j) (least n k f)) < k
  unfolding least value
  least_reached h =
      let w = any_true k (λ j. eqb (f j) (first n value)) (first_passes n value h) in
      omega (arith, w.there, first_most k (λ j. eqb (f j) (first n value)) w.at w.passes)

  pub least_kept_at : least n k f < n → first (k + 1) (λ j. eqb (f j) (least n k f)) ≡ first k (λ j. eqb (f j) (least n k f))
  least_kept_at h = first_kept k (λ j. eqb (f j) (least n k f)) (least_reached h)

-- a loop that keeps the smallest of several bounds: t is below it where it is below all before and the next one

pub all_after : (k : ℕ) (p : ℕ → Bool) (b x y : Bool) → x ≡ (b && all k p) → y ≡ (x && p k) → y ≡ (b && all (k + 1) p)
all_after k p b x y e f = f ∙ rw e (rw all_next (and_assoc b (all k p) (p k)))
