-- "Admission".
use Rattle.std.specs.Prelude.{Bool, ◌&&◌, cond, ℕ, ◌+◌, ◌*◌, ℤ, pos, ◌-ℤ◌, leb, ltb}
use Rattle.below.specs.Below.{first, greatest, sum}
use Rattle.below.specs.Quotient.{rounded_up}
use Rattle.plan.specs.declared.Plan.{Plan}
use Rattle.plan.specs.Plan.{period, budget, owner, is_global, length_of, declares, level}

-- B: the greatest declared length of a global resource over the tasks of row s itself and of later rows, 0 if none
unfoldable pub blocking : Plan → ℕ → ℕ
blocking p s =
    greatest p.tasks (λ t.
    greatest p.resources (λ r.
    cond (is_global p r && declares p t r && leb (level p s) (level p (owner p t))) (length_of p t r) 0))

-- its budget, plus B, plus for each smaller row that row's budget once for each of its periods begun in a period of s
unfoldable pub demand : Plan → ℕ → ℕ
demand p s =
    budget p s + blocking p s
    + sum p.subsystems (λ h. cond (ltb (level p h) (level p s)) (budget p h * rounded_up (period p s) (period p h)) 0)

-- period minus demand, signed
unfoldable pub margin : Plan → ℕ → ℤ
margin p s = pos (period p s) -ℤ pos (demand p s)

-- the first row whose margin is negative; the number of subsystems if none is
unfoldable pub first_negative : Plan → ℕ
first_negative p = first p.subsystems (λ s. ltb (period p s) (demand p s))

-- a plan is admitted when no margin is negative
unfoldable pub admitted : Plan → Bool
admitted p = leb p.subsystems (first_negative p)
