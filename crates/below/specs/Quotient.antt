-- The quotient rounded up.
use Rattle.std.specs.Prelude.{ℕ, ◌+◌, ◌-◌, ◌/◌}

-- m divided by p, rounded up
unfoldable pub rounded_up : ℕ → ℕ → ℕ
rounded_up m p = (m + (p - 1)) / p
