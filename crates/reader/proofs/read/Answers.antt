-- 30, of a plan that was listed.
use Rattle.std.proofs.Common.{sym}
use Rattle.reader.proofs.Answers.{reading_negative}
use Rattle.reader.proofs.read.Goals as goal

pub returns-then-row-p : goal.returns-then-row-p
returns-then-row-p c = sym (reading_negative _ (sym c.in_ok-p.ensures) c.first_negative-row.ensures c.if-row-p.true)
