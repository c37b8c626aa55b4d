-- "Who is chosen".
use Rattle.std.specs.Prelude.{Bool, true, false, not, ◌&&◌, ◌||◌, ℕ, ltb, eqb}
use Rattle.below.specs.Below.{all, any, first}
use Rattle.plan.specs.declared.Plan.{Plan}
use Rattle.plan.specs.Limits.{no_row}
use Rattle.plan.specs.Plan.{owner, is_global, level, highest, taken_before, foremost}
use Rattle.plan.specs.Ceiling.{local_ceiling, global_ceiling}
use Rattle.state.specs.declared.State.{State}
use Rattle.state.specs.State.{task_at, has_budget, is_ready, is_waiting, is_active, held_at, last_held, in_section}

-- a row below n, or no row
unfoldable pub or_no_row : ℕ → ℕ → ℕ
or_no_row n k = elim (ltb k n) [ true ↦ k | false ↦ no_row ]

-- task k holds a global whose ceiling is l
unfoldable pub holds_at_ceiling : Plan → State → ℕ → ℕ → Bool
holds_at_ceiling p s l k = in_section p (task_at s k) && eqb (global_ceiling p (last_held (task_at s k))) l

-- the system ceiling: the smallest ceiling of the held globals; the number of subsystems if none is held
unfoldable pub system_ceiling : Plan → State → ℕ
system_ceiling p s = first p.subsystems (λ l. any p.tasks (holds_at_ceiling p s l))

-- the holder of the resource whose ceiling that is: its subsystem; no row if no global is held
unfoldable pub ceiling_holder : Plan → State → ℕ
ceiling_holder p s =
    let k = first p.tasks (holds_at_ceiling p s (system_ceiling p s)) in
    elim (ltb k p.tasks) [ true ↦ owner p k | false ↦ no_row ]

-- subsystem: the smallest row with budget left that is below the system ceiling; if there is none, the holder, even with no budget left
unfoldable pub chosen : Plan → State → ℕ
chosen p s =
    let c = highest p (λ c. has_budget s c && ltb (level p c) (system_ceiling p s)) in
    elim (ltb c p.subsystems) [ true ↦ c | false ↦ ceiling_holder p s ]

-- ready task t is below every ceiling of a local resource held in subsystem c
unfoldable pub below_locals : Plan → State → ℕ → ℕ → Bool
below_locals p s c t =
    all p.tasks (λ k.
    not (eqb (owner p k) c)
    || all (task_at s k).count (λ i. is_global p (held_at (task_at s k) i) || taken_before p t (local_ceiling p (held_at (task_at s k) i))))

-- a task of subsystem c waits or holds a global
unfoldable pub kept_from_ready : Plan → State → ℕ → Bool
kept_from_ready p s c = any p.tasks (λ k. eqb (owner p k) c && (is_waiting (task_at s k) || in_section p (task_at s k)))

-- task t may be taken in c: started or waiting, or ready and barred by nothing there
unfoldable pub may_be_taken : Plan → State → ℕ → ℕ → Bool
may_be_taken p s c t =
    eqb (owner p t) c
    && (is_active (task_at s t) || (is_ready (task_at s t) && not (kept_from_ready p s c) && below_locals p s c t))

-- task: the smallest such row of the subsystem, or no row
unfoldable pub taken : Plan → State → ℕ → ℕ
taken p s c = or_no_row p.tasks (foremost p (may_be_taken p s c))

-- a waiting task taken means that nothing runs
unfoldable pub runs : State → ℕ → ℕ
runs s k = elim (is_waiting (task_at s k)) [ true ↦ no_row | false ↦ k ]

-- the task taken in the chosen subsystem
unfoldable pub chosen_task : Plan → State → ℕ
chosen_task p s = taken p s (chosen p s)

-- the task running, or no row
unfoldable pub running : Plan → State → ℕ
running p s = runs s (chosen_task p s)
