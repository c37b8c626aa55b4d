-- The smallest value of a function.
use Rattle.std.specs.Prelude.{ℕ, eqb}
use Rattle.below.specs.Below.{any, first}

-- the smallest value below n that f has at a number below k, or n
unfoldable pub least : ℕ → ℕ → (ℕ → ℕ) → ℕ
least n k f = first n (λ l. any k (λ j. eqb (f j) l))
