-- What the parts of a choice compute, of a plan with ceilings and a state. A place that is not there reads as the definitions read it.
use Rattle.std.specs.Prelude.{◌≡◌, Bool, not, ◌&&◌, ◌||◌, cond, ℕ, ◌<◌, ltb, eqb, get_or}
use Rattle.below.specs.Below.{all, first}
use Rattle.below.specs.Least.{least}
use Rattle.plan.specs.declared.Plan.{Plan}
use Rattle.plan.specs.declared.CeiledPlan.{CeiledPlan}
use Rattle.plan.specs.Limits.{no_row}
use Rattle.plan.specs.Plan.{owner, is_global}
use Rattle.state.specs.declared.State.{State}
use Rattle.state.specs.State.{task_at, has_budget, is_ready, is_active, held_at, last_held, in_section}
use Rattle.choice.specs.Choice.{kept_from_ready}

-- the ceiling of the global that task k holds; no row if it holds none
unfoldable pub section_ceiling : CeiledPlan → State → ℕ → ℕ
section_ceiling c s k = cond (in_section c.plan (task_at s k)) (get_or c.ceilings (last_held (task_at s k)) 0) no_row

-- the smallest of these ceilings over the first k tasks, and the first of them with it
pub record Found (subsystems k : ℕ) (ceilings : ℕ → ℕ) (ceiling holder : ℕ) : Type 0 where
  pub smallest : ceiling ≡ least subsystems k ceilings
  pub of_holder : ceiling < subsystems → holder ≡ first k (λ j. eqb (ceilings j) ceiling)
  pub of_none : ceiling ≡ subsystems → holder ≡ no_row

-- the subsystem of task h; no row if h is none
unfoldable pub owner_of : Plan → ℕ → ℕ
owner_of p h = cond (eqb h no_row) no_row (owner p h)

-- the first subsystem below ceiling m with budget left, else that of the holder h
unfoldable pub chosen_by : Plan → State → ℕ → ℕ → ℕ
chosen_by p s m h = cond (ltb (first m (has_budget s)) m) (first m (has_budget s)) (owner_of p h)

-- the ceiling of the i-th resource that task k holds if that is local; no row otherwise
unfoldable pub local_at : CeiledPlan → State → ℕ → ℕ → ℕ
local_at c s k i = cond (is_global c.plan (held_at (task_at s k) i)) no_row (get_or c.ceilings (held_at (task_at s k) i) 0)

-- row t is below every ceiling of a local resource that task k holds
unfoldable pub below_held : CeiledPlan → State → ℕ → ℕ → Bool
below_held c s t k = all (task_at s k).count (λ i. ltb t (local_at c s k i))

-- and so if k is a task of a subsystem
unfoldable pub below_held_in : CeiledPlan → State → ℕ → ℕ → ℕ → Bool
below_held_in c s subsystem t k = not (eqb (owner c.plan k) subsystem) || below_held c s t k

-- no task of a subsystem bars a ready one at row t
abbrev pub unbarred : CeiledPlan → State → ℕ → ℕ → Bool
unbarred c s subsystem t = not (kept_from_ready c.plan s subsystem) && all c.plan.tasks (below_held_in c s subsystem t)

-- task k of a subsystem is started or waiting, or ready and below low
unfoldable pub taken_below : Plan → State → ℕ → ℕ → ℕ → Bool
taken_below p s subsystem low k = eqb (owner p k) subsystem && (is_active (task_at s k) || (is_ready (task_at s k) && ltb k low))
