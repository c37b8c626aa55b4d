-- "Admission": B is at least each declared length of a later row.
use Rattle.std.proofs.Common.{◌≡◌, true, ℕ, ◌≤◌, ◌<◌, le_refl, arith, le-leb}
use Rattle.below.proofs.Amounts.{greatest_over}
use Rattle.plan.specs.declared.Plan.{Plan}
use Rattle.plan.specs.Plan.{owner, is_global, length_of, declares, level}
use Rattle.plan.specs.Admission.{blocking}

-- a declared length of a later row; that B counts row s itself too is not used
pub blocking_at_lem : (p : Plan) (s t r : ℕ) → t < p.tasks → r < p.resources → is_global p r ≡ true → declares p t r ≡ true → level p s < level p (owner p t) → length_of p t r ≤ blocking p s
unfolding blocking
blocking_at_lem p s t r a b g d l =
    let m : level p s ≤ level p (owner p t) = omega arith in
    greatest_over p.tasks _ t _ a (greatest_over p.resources _ r _ b (rw (g, d, le-leb) (le_refl _)))
