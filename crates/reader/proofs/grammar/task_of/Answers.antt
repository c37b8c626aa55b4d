-- Its one number is the last.
use Rattle.std.proofs.Common.{sym, ◌∙◌}
use Rattle.reader.specs.Line.{as_task}
use Rattle.reader.proofs.Fields.{last_written, last_not}
use Rattle.reader.proofs.grammar.task_of.Goals as goal

pub returns-in_err-subsystem : goal.returns-in_err-subsystem
returns-in_err-subsystem c = rw c.from_residual.ensures (sym (last_not as_task _ (sym c.number_of.ensures ∙ c.in_err-subsystem.was)))

pub returns : goal.returns
returns c = sym (last_written as_task _ (sym c.number_of.ensures ∙ c.in_ok-subsystem.was))
