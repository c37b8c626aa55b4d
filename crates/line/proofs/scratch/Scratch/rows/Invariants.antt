-- `line::scratch::Scratch::rows` meets its contract. The loop's invariant: the rows below `row` complete the text that stands.
use Rattle.line.proofs.Rows.{Rows}
use Rattle.line.proofs.scratch.Scratch.rows.Given as goal

abbrev pub invariant-loop-row : goal.invariant-loop-row
invariant-loop-row l = Rows l.set l.row l.others l.initial.self l.self
