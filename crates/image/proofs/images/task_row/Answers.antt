use Rattle.below.specs.Listed.{listed, listed_onto}
use Rattle.state.specs.State.{task_at}
use Rattle.image.specs.Image.{task_bytes}
use Rattle.image.proofs.images.task_row.Goals as goal

pub returns : goal.returns
unfolding task_bytes task_at listed listed_onto
returns c = rw c.task-t.ensures
