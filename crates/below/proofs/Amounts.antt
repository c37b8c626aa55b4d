-- Laws of sum and greatest: bounds, and that only the numbers below n count.
use Rattle.std.proofs.Common.{◌≡◌, refl, ap, ◌≢◌, ◌⊎◌, inl, inr, ⊎_elim, ℕ, zero, suc, ◌+◌, ◌*◌, ◌≤◌, ◌<◌, not-suc-le-zero, lt-suc_self, arith}
use native.Mathlib.Nat.{le_step}
use Rattle.below.specs.Below.{sum, greatest}
use Rattle.below.proofs.Search.{last_or_before}

-- sum: entry by entry

pub sum_rises : (n : ℕ) (f g : ℕ → ℕ) → ((k : ℕ) → k < n → f k ≤ g k) → sum n f ≤ sum n g
unfolding sum
sum_rises zero f g l = omega arith
sum_rises (suc n) f g l = omega (arith, sum_rises n f g (λ k h. l k (le_step h)), l n (lt-suc_self n))

pub sum_plus : (n : ℕ) (f g : ℕ → ℕ) → sum n (λ k. f k + g k) ≡ sum n f + sum n g
unfolding sum
sum_plus zero f g = refl
sum_plus (suc n) f g = omega (arith, sum_plus n f g)

-- sum: where no entry rises and one falls by at least d, the sum falls by at least d
pub sum_falls : (n : ℕ) (f g : ℕ → ℕ) (d at : ℕ) → at < n → f at + d ≤ g at → ((k : ℕ) → k < n → f k ≤ g k) → sum n f + d ≤ sum n g
unfolding sum
sum_falls zero f g d at h fall l = absurd (not-suc-le-zero h)
sum_falls (suc n) f g d at h fall l = ⊎_elim here (λ v. before (sum_falls n f g d at v fall (λ k u. l k (le_step u)))) (last_or_before h)
  where
    here : at ≡ n → sum n f + f n + d ≤ sum n g + g n
    here q =
        let v : f n + d ≤ g n = rw q at fall in
        omega (arith, sum_rises n f g (λ k u. l k (le_step u)))

    before : sum n f + d ≤ sum n g → sum n f + f n + d ≤ sum n g + g n
    before v = omega (arith, l n (lt-suc_self n))

-- sum: of nothing
pub sum_zero : (n : ℕ) (f : ℕ → ℕ) → ((k : ℕ) → k < n → f k ≡ 0) → sum n f ≡ 0
unfolding sum
sum_zero zero f e = refl
sum_zero (suc n) f e = omega (arith, sum_zero n f (λ k h. e k (le_step h)), e n (lt-suc_self n))

-- sum: where every other entry is nothing, it is the one
pub sum_only : (n : ℕ) (f : ℕ → ℕ) (k : ℕ) → k < n → ((j : ℕ) → j < n → j ≢ k → f j ≡ 0) → sum n f ≡ f k
unfolding sum
sum_only zero f k h e = absurd (not-suc-le-zero h)
sum_only (suc n) f k h e = go (last_or_before h) (sum_only n f k)
  where
    go : (k ≡ n) ⊎ (k < n) → (k < n → ((j : ℕ) → j < n → j ≢ k → f j ≡ 0) → sum n f ≡ f k) → sum n f + f n ≡ f k
    go (inl q) ih =
        let v : f k ≡ f n = ap f q in
        omega (arith, sum_zero n f (λ j l. e j (le_step l) (omega arith)))
    go (inr l) ih = omega (arith, ih l (λ j m. e j (le_step m)), e n (lt-suc_self n) (omega arith))

-- sum: one entry is at most the sum
pub sum_at : (n : ℕ) (f : ℕ → ℕ) (k : ℕ) → k < n → f k ≤ sum n f
sum_at n f k h = omega (arith, sum_falls n (λ j. 0) f (f k) k h (omega arith) (λ j u. omega arith))

-- sum: of entries that are at most c
pub sum_bounded : (n : ℕ) (f : ℕ → ℕ) (c : ℕ) → ((k : ℕ) → k < n → f k ≤ c) → sum n f ≤ n * c
unfolding sum
sum_bounded zero f c l = omega arith
sum_bounded (suc n) f c l = omega (arith, sum_bounded n f c (λ k h. l k (le_step h)), l n (lt-suc_self n))

-- greatest: at least each entry, and at most what bounds each entry

pub greatest_at : (n : ℕ) (f : ℕ → ℕ) (k : ℕ) → k < n → f k ≤ greatest n f
unfolding greatest
greatest_at zero f k h = absurd (not-suc-le-zero h)
greatest_at (suc n) f k h = ⊎_elim
    (λ q. let e : f k ≡ f n = ap f q in omega arith)
    (λ v. omega (arith, greatest_at n f k v))
    (last_or_before h)

pub greatest_over : (n : ℕ) (f : ℕ → ℕ) (k x : ℕ) → k < n → x ≤ f k → x ≤ greatest n f
greatest_over n f k x h l = omega (arith, greatest_at n f k h)

pub greatest_most : (n : ℕ) (f : ℕ → ℕ) (m : ℕ) → ((k : ℕ) → k < n → f k ≤ m) → greatest n f ≤ m
unfolding greatest
greatest_most zero f m l = omega arith
greatest_most (suc n) f m l = omega (arith, greatest_most n f m (λ k h. l k (le_step h)), l n (lt-suc_self n))
