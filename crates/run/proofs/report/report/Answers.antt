-- `run::report::report` meets its contract: what the reading answers decides which lines are written.
use Rattle.std.proofs.Common.{sym}
use Rattle.run.proofs.RowsLaws.{lines_rows, lines_refused}
use Rattle.run.proofs.report.report.Goals as goal

pub returns-in-Ok : goal.returns-in-Ok
returns-in-Ok c = rw (lines_rows c.args.text.now (sym c.in-Ok.ensures)) at c.report_rows.ensures

pub returns-in-Err : goal.returns-in-Err
returns-in-Err c = rw (lines_refused c.args.text.now (sym c.in-Err.ensures)) at c.put_refusal.ensures
