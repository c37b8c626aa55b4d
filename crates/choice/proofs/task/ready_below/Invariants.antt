-- No task passed keeps ready ones from being taken, and a row is below low exactly if it is below the ceiling of each local that a task of the subsystem passed holds.
use Rattle.std.proofs.Common.{◌≡◌, false, ◌&&◌, ◌||◌, ℕ, ◌<◌, ltb, eqb}
use Rattle.below.specs.Below.{all}
use Rattle.plan.specs.Limits.{no_row}
use Rattle.plan.specs.Plan.{owner}
use Rattle.state.specs.State.{task_at, is_waiting, in_section}
use Rattle.choice.specs.Columns.{below_held_in}
use Rattle.choice.proofs.task.ready_below.Given as goal

abbrev pub invariant-loop-k : goal.invariant-loop-k
invariant-loop-k l =
    ((j : ℕ) → j < l.k → (eqb (owner l.c.plan j) l.subsystem && (is_waiting (task_at l.s j) || in_section l.c.plan (task_at l.s j))) ≡ false)
    × ((t : ℕ) → ltb t l.low ≡ (ltb t no_row && all l.k (below_held_in l.c l.s l.subsystem t)))
