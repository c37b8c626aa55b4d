-- What the functions that test a state compute, with ceilings out of a list.
use Rattle.std.specs.Prelude.{Bool, not, ◌&&◌, ◌||◌, List, ℕ, ◌+◌, leb, ltb, eqb, get_or}
use Rattle.below.specs.Below.{all}
use Rattle.plan.specs.declared.Plan.{Plan}
use Rattle.plan.specs.Limits.{most_subsystems, most_tasks, no_row}
use Rattle.plan.specs.Plan.{owner, is_global, declares, level, taken_before}
use Rattle.state.specs.declared.Task.{Task}
use Rattle.state.specs.declared.State.{State}
use Rattle.state.specs.State.{task_at, is_waiting, held_at, last_held, in_section}
use Rattle.legal.specs.Legal.{implies, counts_legal, absent_subsystem, well_written, absent_task, held_legal, resting_legal, waiting_legal, section_legal, unused_legal, active_before}

-- the counts of a subsystem, present or absent
unfoldable pub counts_fit : Plan → State → ℕ → Bool
counts_fit p s c = implies (ltb c p.subsystems) (counts_legal p s c) && implies (leb p.subsystems c) (absent_subsystem s c)

-- k is a task of subsystem c in a section
unfoldable pub section_of : Plan → State → ℕ → ℕ → Bool
section_of p s c k = eqb (owner p k) c && in_section p (task_at s k)

-- the i-th place holds a resource, or says that it holds none
unfoldable pub free_at : Task → ℕ → Bool
free_at t i = implies (leb t.count i) (eqb (held_at t i) no_row)

-- the j-th held resource is not the i-th
unfoldable pub unlike_at : Task → ℕ → ℕ → Bool
unlike_at t i j = not (eqb (held_at t j) (held_at t i))

-- the i-th resource that task k holds is there, declared, unlike those taken before, and the last if it is global
unfoldable pub held_one : Plan → ℕ → Task → ℕ → Bool
held_one p k t i =
    ltb (held_at t i) p.resources
    && declares p k (held_at t i)
    && all i (unlike_at t i)
    && implies (is_global p (held_at t i)) (eqb (i + 1) t.count)

-- a task by itself
unfoldable pub alone_legal : Plan → ℕ → Task → Bool
alone_legal p k t = well_written t && held_legal p k t && resting_legal t && waiting_legal p k t

-- and present or absent
unfoldable pub task_fits : Plan → State → ℕ → Bool
task_fits p s k = implies (ltb k p.tasks) (alone_legal p k (task_at s k)) && implies (leb p.tasks k) (absent_task (task_at s k))

-- j is no started or waiting task of k's subsystem that is taken before k, or it lies below the row
unfoldable pub below_row : Plan → State → ℕ → ℕ → ℕ → Bool
below_row p s k row j = implies (active_before p s k j) (taken_before p j row)

-- the i-th resource that task k holds is global, or each such task lies below its ceiling, as the list has it
unfoldable pub below_held : Plan → List ℕ → State → ℕ → Task → ℕ → Bool
below_held p ceilings s k t i = is_global p (held_at t i) || all p.tasks (below_row p s k (get_or ceilings (held_at t i) 0))

-- if t, which is task k, waits or holds a global, there is no such task
unfoldable pub first_held : Plan → State → ℕ → Task → Bool
first_held p s k t = implies (is_waiting t || in_section p t) (all p.tasks (λ j. not (active_before p s k j)))

-- the order of the tasks within a subsystem, as seen from k
unfoldable pub ordered : Plan → List ℕ → State → ℕ → Bool
ordered p ceilings s k = all (task_at s k).count (below_held p ceilings s k (task_at s k)) && first_held p s k (task_at s k)

-- of two subsystems holding globals, one has its row below the other's ceiling, as the list has it
unfoldable pub apart : Plan → List ℕ → State → ℕ → ℕ → Bool
apart p ceilings s j k =
    implies (in_section p (task_at s j) && in_section p (task_at s k) && not (eqb (owner p j) (owner p k)))
    (ltb (level p (owner p j)) (get_or ceilings (last_held (task_at s k)) 0) || ltb (level p (owner p k)) (get_or ceilings (last_held (task_at s j)) 0))

unfoldable pub apart_from : Plan → List ℕ → State → ℕ → Bool
apart_from p ceilings s j = all p.tasks (apart p ceilings s j)

-- the conditions of a legal state, in the order in which they are tested: of subsystems, of tasks by themselves, of tasks together
unfoldable pub subsystems_pass : Plan → State → Bool
subsystems_pass p s = all most_subsystems (counts_fit p s) && all p.subsystems (unused_legal p s)

unfoldable pub tasks_pass : Plan → State → Bool
tasks_pass p s = all most_tasks (task_fits p s) && all p.tasks (section_legal p s)

unfoldable pub order_pass : Plan → List ℕ → State → Bool
order_pass p ceilings s = all p.tasks (ordered p ceilings s) && all p.tasks (apart_from p ceilings s)
