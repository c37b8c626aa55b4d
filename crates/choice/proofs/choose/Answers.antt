-- What its parts found is, of a legal state, the choice.
use Rattle.choice.proofs.Computed.{computed_is}
use Rattle.choice.proofs.choose.Goals as goal

pub returns : goal.returns
returns c =
    computed_is _ _ _ _ _ _ _
    (record {
      found = c.system_section-section.ensures;
      subsystem = c.subsystem_of-subsystem.ensures;
      ready = c.ready_below-low.ensures;
      task = c.task_of-task.ensures;
    })
