-- Laws of all, any and first: how a counting loop starts and goes on, what the answer says of each number below n, and that only the numbers below n count.
use Rattle.std.proofs.Common.{◌≡◌, refl, sym, ap, ap₂, ◌∙◌, ◌⊎◌, inl, inr, ⊎_elim, Bool, true, false, ◌&&◌, ◌||◌, true≢false, ℕ, zero, suc, ◌+◌, ◌≤◌, ◌<◌, le_of_suc-le-suc, eq-or-lt_of_le, not-suc-le-zero, lt-suc_self, lt_trans, add-one, arith, ltb, ltb-true, ltb-false}
use mathlib.Core.Bool.{false≢true, and-eq-true_iff, or-true}
use native.Mathlib.Nat.{le_step}
use Rattle.below.specs.Below.{all, any, first}
use Rattle.below.proofs.Tests.{and_left, and_right, and_of, same_truth}

-- a number below n + 1 is n or below n
pub last_or_before : {k n : ℕ} → k < suc n → (k ≡ n) ⊎ (k < n)
last_or_before h = eq-or-lt_of_le (le_of_suc-le-suc h)

-- a number below n that passes
pub record Passing (n : ℕ) (p : ℕ → Bool) : Type 0 where
  pub at : ℕ
  pub there : at < n
  pub passes : p at ≡ true

-- all: the loop

pub all_none : (p : ℕ → Bool) → all 0 p ≡ true
unfolding all
all_none p = refl

pub all_next : (n : ℕ) (p : ℕ → Bool) → all (n + 1) p ≡ (all n p && p n)
unfolding all
all_next n p = rw add-one

-- all: every number passes, from the answer and back

pub all_at : (n : ℕ) (p : ℕ → Bool) → all n p ≡ true → (k : ℕ) → k < n → p k ≡ true
unfolding all
all_at zero p e k h = absurd (not-suc-le-zero h)
all_at (suc n) p e k h =
    ⊎_elim (λ q. ap p q ∙ ((and-eq-true_iff (all n p) (p n)).0 e).1) (all_at n p ((and-eq-true_iff (all n p) (p n)).0 e).0 k) (last_or_before h)

pub all_of : (n : ℕ) (p : ℕ → Bool) → ((k : ℕ) → k < n → p k ≡ true) → all n p ≡ true
unfolding all
all_of zero p f = refl
all_of (suc n) p f = rw (all_of n p (λ k h. f k (le_step h)), f n (lt-suc_self n))

pub all_agree : (n : ℕ) (p q : ℕ → Bool) → ((k : ℕ) → k < n → p k ≡ q k) → all n p ≡ all n q
unfolding all
all_agree zero p q f = refl
all_agree (suc n) p q f = rw (all_agree n p q (λ k h. f k (le_step h)), f n (lt-suc_self n))

-- all: of two tests, in two passes
pub all_both : (n : ℕ) (p q : ℕ → Bool) → all n (λ k. p k && q k) ≡ (all n p && all n q)
all_both n p q = same_truth (all n both) (all n p && all n q)
    (λ e. and_of (all n p) (all n q) (all_of n p (λ k h. and_left (p k) (q k) (all_at n both e k h))) (all_of n q (λ k h. and_right (p k) (q k) (all_at n both e k h))))
    (λ e. all_of n both (λ k h. and_of (p k) (q k) (all_at n p (and_left (all n p) (all n q) e) k h) (all_at n q (and_right (all n p) (all n q) e) k h)))
  where
    both : ℕ → Bool
    both k = p k && q k

-- any: the loop

pub any_none : (p : ℕ → Bool) → any 0 p ≡ false
unfolding any
any_none p = refl

pub any_next : (n : ℕ) (p : ℕ → Bool) → any (n + 1) p ≡ (any n p || p n)
unfolding any
any_next n p = rw add-one

-- any: a number that passes, from the answer and back

pub any_true : (n : ℕ) (p : ℕ → Bool) → any n p ≡ true → Passing n p
unfolding any
any_true zero p e = absurd (false≢true e)
any_true (suc n) p e = go (any n p) (p n) refl e (any_true n p)
  where
    go : (a b : Bool) → p n ≡ b → (a || b) ≡ true → (a ≡ true → Passing n p) → Passing (suc n) p
    go true b eb q f =
        let w = f refl in
        record { at = w.at; there = le_step w.there; passes = w.passes }
    go false true eb q f = record { at = n; there = lt-suc_self n; passes = eb }
    go false false eb q f = absurd (false≢true q)

pub any_of : (n : ℕ) (p : ℕ → Bool) (k : ℕ) → k < n → p k ≡ true → any n p ≡ true
unfolding any
any_of zero p k h e = absurd (not-suc-le-zero h)
any_of (suc n) p k h e = go (last_or_before h) (any_of n p k)
  where
    go : (k ≡ n) ⊎ (k < n) → (k < n → p k ≡ true → any n p ≡ true) → (any n p || p n) ≡ true
    go (inl q) f = rw (sym (ap p q) ∙ e) (or-true (any n p))
    go (inr l) f = rw (f l e)

-- any: where the answer is false, no number passes
pub any_false : (n : ℕ) (p : ℕ → Bool) → any n p ≡ false → (k : ℕ) → k < n → p k ≡ false
any_false n p e k h = go (p k) refl
  where
    go : (b : Bool) → p k ≡ b → b ≡ false
    go true q = absurd (true≢false (sym (any_of n p k h q) ∙ e))
    go false q = refl

-- and where no number passes it is false
pub any_absent : (n : ℕ) (p : ℕ → Bool) → ((k : ℕ) → k < n → p k ≡ false) → any n p ≡ false
unfolding any
any_absent zero p f = refl
any_absent (suc n) p f = rw (any_absent n p (λ k h. f k (le_step h)), f n (lt-suc_self n))

pub any_agree : (n : ℕ) (p q : ℕ → Bool) → ((k : ℕ) → k < n → p k ≡ q k) → any n p ≡ any n q
unfolding any
any_agree zero p q f = refl
any_agree (suc n) p q f = rw (any_agree n p q (λ k h. f k (le_step h)), f n (lt-suc_self n))

-- first: the loop. What is found stays; while nothing is found, the next number decides

first_cases : (n : ℕ) (p : ℕ → Bool) (C : ℕ → Type 0) → (first n p < n → C (first n p)) → (n ≤ first n p → p n ≡ true → C n)
    → (n ≤ first n p → p n ≡ false → C (suc n)) → C (first (suc n) p)
unfolding first
first_cases n p C kept found missed = go (ltb (first n p) n) refl (p n) refl
  where
    go : (b : Bool) → ltb (first n p) n ≡ b → (c : Bool) → p n ≡ c
        → C (elim b [ true ↦ first n p | false ↦ elim c [ true ↦ n | false ↦ suc n ] ])
    go true e c q = kept (ltb-true (first n p) n e)
    go false e true q = found (ltb-false (first n p) n e) q
    go false e false q = missed (ltb-false (first n p) n e) q

pub first_kept : (n : ℕ) (p : ℕ → Bool) → first n p < n → first (n + 1) p ≡ first n p
first_kept n p h =
    rw add-one (first_cases n p (λ x. x ≡ first n p) (λ l. refl) (λ l e. omega arith) (λ l e. omega arith))

-- first: it is at most n, below it no number passes, and below n it passes

pub first_le : (n : ℕ) (p : ℕ → Bool) → first n p ≤ n
unfolding first
first_le zero p = omega arith
first_le (suc n) p =
    first_cases n p (λ x. x ≤ suc n) (λ l. omega arith) (λ l e. omega arith) (λ l e. omega arith)

pub first_passes : (n : ℕ) (p : ℕ → Bool) → first n p < n → p (first n p) ≡ true
first_passes zero p h = absurd (not-suc-le-zero h)
first_passes (suc n) p h = first_cases n p (λ x. x < suc n → p x ≡ true) (λ l u. first_passes n p l) (λ l e u. e) (λ l e u. absurd (omega arith)) h

pub first_before : (n : ℕ) (p : ℕ → Bool) (k : ℕ) → k < first n p → p k ≡ false
unfolding first
first_before zero p k h = absurd (not-suc-le-zero h)
first_before (suc n) p k h =
    first_cases n p (λ x. k < x → p k ≡ false)
    (λ l. first_before n p k)
    (λ l e u. first_before n p k (omega arith))
    (λ l e u. ⊎_elim (λ q. ap p q ∙ e) (λ v. first_before n p k (omega arith)) (last_or_before u))
    h

-- first: a number that passes bounds it
pub first_most : (n : ℕ) (p : ℕ → Bool) (k : ℕ) → p k ≡ true → first n p ≤ k
first_most n p k t =
    let h : ¬ (k < first n p) = λ l. true≢false (sym t ∙ first_before n p k l) in
    omega arith

-- first: where none passes it is n, and the smallest that passes is it
pub first_absent : (n : ℕ) (p : ℕ → Bool) → ((k : ℕ) → k < n → p k ≡ false) → first n p ≡ n
first_absent n p f =
    let h : ¬ (first n p < n) = λ l. true≢false (sym (first_passes n p l) ∙ f (first n p) l) in
    omega (arith, first_le n p)

pub first_is : (n : ℕ) (p : ℕ → Bool) (k : ℕ) → k < n → p k ≡ true → ((j : ℕ) → j < k → p j ≡ false) → first n p ≡ k
first_is n p k l t f =
    let h : ¬ (first n p < k) =
    λ v. true≢false (sym (first_passes n p (lt_trans v l)) ∙ f (first n p) v) in
    omega (arith, first_most n p k t)

pub first_agree : (n : ℕ) (p q : ℕ → Bool) → ((k : ℕ) → k < n → p k ≡ q k) → first n p ≡ first n q
unfolding first
first_agree zero p q f = refl
first_agree (suc n) p q f =
    ap₂ (λ (x : ℕ) (b : Bool). elim (ltb x n) [ true ↦ x | false ↦ elim b [ true ↦ n | false ↦ suc n ] ])
    (first_agree n p q (λ k h. f k (le_step h)))
    (f n (lt-suc_self n))
