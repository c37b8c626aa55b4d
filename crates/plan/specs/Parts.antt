-- The parts of the definitions that have a method of their own.
use Rattle.std.specs.Prelude.{Bool, not, ◌&&◌, ◌||◌, cond, ℕ, ◌*◌, leb, ltb, eqb}
use Rattle.below.specs.Quotient.{rounded_up}
use Rattle.plan.specs.declared.Plan.{Plan}
use Rattle.plan.specs.Plan.{period, budget, owner, is_global, length_of, declares, level}

-- "Admission": what a task counts at a resource in B of row s
unfoldable pub blocking_at : Plan → ℕ → ℕ → ℕ → ℕ
blocking_at p s t r = cond (is_global p r && declares p t r && leb (level p s) (level p (owner p t))) (length_of p t r) 0

-- "Admission": what row h counts in the demand of row s
unfoldable pub demand_by : Plan → ℕ → ℕ → ℕ
demand_by p s h = cond (ltb (level p h) (level p s)) (budget p h * rounded_up (period p s) (period p h)) 0

-- "Ceilings": a task of level l declares the resource
unfoldable pub declares_at : Plan → ℕ → ℕ → ℕ → Bool
declares_at p r l t = eqb (level p (owner p t)) l && declares p t r

-- 27, one task: it does not declare the resource, or its subsystem is s
unfoldable pub used_from : Plan → ℕ → ℕ → ℕ → Bool
used_from p r s t = not (declares p t r) || eqb s (owner p t)
