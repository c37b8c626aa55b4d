-- Each part of the task is the entry of its column.
use Rattle.std.proofs.Common.{rules}
use Rattle.below.specs.Listed.{listed, listed_onto}
use Rattle.state.specs.State.{task_at}
use Rattle.state.proofs.Update.{same_task}
use Rattle.state.proofs.State.task.Goals as goal

pub returns : goal.returns
unfolding task_at listed listed_onto
returns c =
    same_task _ _ (search rules) (search rules) (search rules)
    (rw (c.held_of.ensures, c.held_of-2.ensures, c.held_of-3.ensures, c.held_of-4.ensures))
