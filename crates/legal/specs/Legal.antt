-- "State": when a state is legal for a plan, condition by condition.
use Rattle.std.specs.Prelude.{Bool, not, ◌&&◌, ◌||◌, ℕ, ◌+◌, leb, ltb, eqb}
use Rattle.below.specs.Below.{all, any}
use Rattle.plan.specs.declared.Plan.{Plan}
use Rattle.plan.specs.Limits.{most_subsystems, most_tasks, no_row}
use Rattle.plan.specs.Plan.{period, budget, owner, is_global, length_of, declares, level, taken_before}
use Rattle.plan.specs.Ceiling.{local_ceiling, global_ceiling}
use Rattle.state.specs.declared.Task.{Task}
use Rattle.state.specs.declared.State.{State}
use Rattle.state.specs.State.{most_held, task_at, left_of, refill_of, used_of, is_idle, is_ready, is_waiting, is_active, held_at, last_held, in_section, section_left}

-- one test follows from another
unfoldable pub implies : Bool → Bool → Bool
implies a b = not a || b

-- budget left is at most the budget; ticks to refill are 1 to the period
unfoldable pub counts_legal : Plan → State → ℕ → Bool
counts_legal p s c = leb (left_of s c).0 (budget p c) && leb 1 (refill_of s c) && leb (refill_of s c) (period p c)

-- an absent subsystem is all 0
unfoldable pub absent_subsystem : State → ℕ → Bool
absent_subsystem s c = eqb (left_of s c).0 0 && eqb (refill_of s c) 0 && eqb (used_of s c) 0

-- places that hold nothing say so, and so does a task that does not wait
unfoldable pub well_written : Task → Bool
well_written t =
    leb t.condition 3
    && leb t.count most_held
    && all most_held (λ i. implies (leb t.count i) (eqb (held_at t i) no_row))
    && implies (not (is_waiting t)) (eqb t.waits no_row)

-- an absent task looks idle
unfoldable pub absent_task : Task → Bool
absent_task t = well_written t && is_idle t && eqb t.count 0

-- held resources are there, declared and distinct, with a global one only last
unfoldable pub held_legal : Plan → ℕ → Task → Bool
held_legal p k t =
    all t.count (λ i.
    ltb (held_at t i) p.resources
    && declares p k (held_at t i)
    && all i (λ j. not (eqb (held_at t j) (held_at t i)))
    && implies (is_global p (held_at t i)) (eqb (i + 1) t.count))

-- idle and ready tasks hold nothing
unfoldable pub resting_legal : Task → Bool
resting_legal t = implies (is_idle t || is_ready t) (eqb t.count 0)

-- a waiting task waits for a global that it declares, holds no global and at most 3 others
unfoldable pub waiting_legal : Plan → ℕ → Task → Bool
waiting_legal p k t =
    implies (is_waiting t)
    (ltb t.waits p.resources && is_global p t.waits && declares p k t.waits && not (in_section p t) && leb t.count 3)

-- used is at most the length of the section, and budget left at least length minus used
unfoldable pub section_legal : Plan → State → ℕ → Bool
section_legal p s k =
    implies (in_section p (task_at s k))
    (leb (used_of s (owner p k)) (length_of p k (last_held (task_at s k)))
    && leb (section_left p s k).0 (left_of s (owner p k)).0)

-- used is 0 without a section
unfoldable pub unused_legal : Plan → State → ℕ → Bool
unused_legal p s c =
    any p.tasks (λ k. eqb (owner p k) c && in_section p (task_at s k)) || eqb (used_of s c) 0

-- j is a started or waiting task of the same subsystem that is taken before k
unfoldable pub active_before : Plan → State → ℕ → ℕ → Bool
active_before p s k j = eqb (owner p j) (owner p k) && taken_before p j k && is_active (task_at s j)

-- if k holds a local resource, each such task lies below its ceiling number
unfoldable pub locals_legal : Plan → State → ℕ → Bool
locals_legal p s k =
    all (task_at s k).count (λ i.
    is_global p (held_at (task_at s k) i)
    || all p.tasks (λ j. implies (active_before p s k j) (taken_before p j (local_ceiling p (held_at (task_at s k) i)))))

-- if k waits or holds a global, there is no such task
unfoldable pub globals_legal : Plan → State → ℕ → Bool
globals_legal p s k =
    implies (is_waiting (task_at s k) || in_section p (task_at s k)) (all p.tasks (λ j. not (active_before p s k j)))

-- the row of j's subsystem is below the ceiling number of the global that k holds
unfoldable pub below_section : Plan → State → ℕ → ℕ → Bool
below_section p s j k = ltb (level p (owner p j)) (global_ceiling p (last_held (task_at s k)))

-- of two subsystems holding globals, one has its row below the other's ceiling number
unfoldable pub sections_legal : Plan → State → ℕ → ℕ → Bool
sections_legal p s j k =
    implies (in_section p (task_at s j) && in_section p (task_at s k) && not (eqb (owner p j) (owner p k)))
    (below_section p s j k || below_section p s k j)

-- the conditions of a subsystem, present or absent
unfoldable pub subsystem_legal : Plan → State → ℕ → Bool
subsystem_legal p s c = implies (ltb c p.subsystems) (counts_legal p s c && unused_legal p s c) && implies (leb p.subsystems c) (absent_subsystem s c)

-- the conditions of a task, present or absent
unfoldable pub task_legal : Plan → State → ℕ → Bool
task_legal p s k =
    implies (ltb k p.tasks)
    (well_written (task_at s k)
    && held_legal p k (task_at s k)
    && resting_legal (task_at s k)
    && waiting_legal p k (task_at s k)
    && section_legal p s k
    && locals_legal p s k
    && globals_legal p s k
    && all p.tasks (sections_legal p s k))
    && implies (leb p.tasks k) (absent_task (task_at s k))

-- a state is legal for a plan
unfoldable pub legal : Plan → State → Bool
legal p s = all most_subsystems (subsystem_legal p s) && all most_tasks (task_legal p s)
