-- "Ceilings": a ceiling is at most each declarer.
use Rattle.std.proofs.Common.{◌≡◌, refl, true, false, ℕ, ◌≤◌, ◌<◌, arith, eq-eqb}
use Rattle.below.proofs.Search.{any_of, first_most}
use Rattle.below.proofs.Tests.{and_of}
use Rattle.plan.specs.declared.Plan.{Plan}
use Rattle.plan.specs.Plan.{owner, declares, level, taken_before}
use Rattle.plan.specs.Ceiling.{local_ceiling, global_ceiling}
use Rattle.plan.specs.Facts.{Accepted}
use Rattle.plan.proofs.Order.{level_there, foremost_first}

module _ (p : Plan) (t r : ℕ) (there : t < p.tasks) (declared : declares p t r ≡ true) where
  -- the ceiling of a global resource is at most the level of a task that declares it
  pub global_ceiling_most : global_ceiling p r ≤ level p (owner p t)
  unfolding global_ceiling
  global_ceiling_most =
      first_most p.subsystems _ (level p (owner p t)) (any_of p.tasks _ t there (and_of _ _ (eq-eqb (level p (owner p t)) _ refl) declared))

  -- it is the level of a subsystem
  pub global_ceiling_there : Accepted p → global_ceiling p r < p.subsystems
  global_ceiling_there A = omega (arith, global_ceiling_most, level_there p (owner p t) (A.owner_there t there))

  -- no task that declares a local resource is taken before its ceiling
  pub local_ceiling_first : taken_before p t (local_ceiling p r) ≡ false
  unfolding local_ceiling
  local_ceiling_first = foremost_first p _ t there declared
