-- A plan that the reader accepts is accepted.
use Rattle.skrzypolot.proofs.FirstState.{read_plan}
use Rattle.skrzypolot.proofs.events.run_files.Goals as goal

pub open_events-requires : goal.open_events-requires
open_events-requires c = read_plan _ _ c.read.ensures
