-- "Ceilings".
use Rattle.std.specs.Prelude.{◌&&◌, cond, ℕ, eqb}
use Rattle.below.specs.Below.{any, first}
use Rattle.plan.specs.declared.Plan.{Plan}
use Rattle.plan.specs.Plan.{owner, is_global, declares, level, foremost}

-- of a local resource: the smallest task row that declares it
unfoldable pub local_ceiling : Plan → ℕ → ℕ
local_ceiling p r = foremost p (λ t. declares p t r)

-- of a global resource: the smallest subsystem row, by its level, with a task that declares it
unfoldable pub global_ceiling : Plan → ℕ → ℕ
global_ceiling p r = first p.subsystems (λ l. any p.tasks (λ t. eqb (level p (owner p t)) l && declares p t r))

-- the ceiling of a resource, local or global
unfoldable pub ceiling : Plan → ℕ → ℕ
ceiling p r = cond (is_global p r) (global_ceiling p r) (local_ceiling p r)
