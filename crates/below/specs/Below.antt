-- Search, sums and maxima over the numbers below n. Each is defined once, by recursion on n, and goes up from 0 as a counting loop does.
use Rattle.std.specs.Prelude.{Bool, true, false, ◌&&◌, ◌||◌, ℕ, zero, suc, ◌+◌, max, ltb}

-- every number below n passes
unfoldable pub all : ℕ → (ℕ → Bool) → Bool
all zero p = true
all (suc n) p = all n p && p n

-- some number below n passes
unfoldable pub any : ℕ → (ℕ → Bool) → Bool
any zero p = false
any (suc n) p = any n p || p n

-- the smallest number below n that passes, or n
unfoldable pub first : ℕ → (ℕ → Bool) → ℕ
first zero p = zero
first (suc n) p = elim (ltb (first n p) n) [ true ↦ first n p | false ↦ elim (p n) [ true ↦ n | false ↦ suc n ] ]

-- the greatest value at a number below n, or 0
unfoldable pub greatest : ℕ → (ℕ → ℕ) → ℕ
greatest zero f = zero
greatest (suc n) f = max (greatest n f) (f n)

-- the sum of the values at the numbers below n
unfoldable pub sum : ℕ → (ℕ → ℕ) → ℕ
sum zero f = zero
sum (suc n) f = sum n f + f n
