-- `line::events::rows_of` meets its contract: the kind says how many rows are wanted.
use Rattle.std.proofs.Common.{sym, ◌∙◌, rules}
use Rattle.line.proofs.Behind.{last_row}
use Rattle.line.proofs.Names.{kind_one, kind_two, kind_rows}
use Rattle.line.proofs.events.rows_of.Goals as goal

pub returns-in_err-task-in-Release : goal.returns-in_err-task-in-Release
returns-in_err-task-in-Release c =
    c.from_residual.ensures
    ∙ sym (kind_one _ c.in-Release.is _ ∙ last_row _ _ ∙ rw (sym c.number_of.ensures ∙ c.in_err-task-in-Release.was))

pub returns-in_ok-task-in-Release : goal.returns-in_ok-task-in-Release
returns-in_ok-task-in-Release c = sym (kind_one _ c.in-Release.is _ ∙ last_row _ _ ∙ rw (sym c.number_of.ensures ∙ c.in_ok-task-in-Release.was))

pub returns-in-Lock : goal.returns-in-Lock
returns-in-Lock c =
    c.two_rows.ensures ∙ sym (kind_two _ (search rules) _)

pub returns-in-Tick : goal.returns-in-Tick
returns-in-Tick c = sym (kind_rows _ c.in-Tick.is _)
