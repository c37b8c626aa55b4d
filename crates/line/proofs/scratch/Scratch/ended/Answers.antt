-- `line::scratch::Scratch::ended` meets its contract: 32 rows and their commas have 85 bytes.
use Rattle.std.proofs.Common.{length, length-append, ap, arith}
use Rattle.line.proofs.Short.{rows_length}
use Rattle.line.proofs.scratch.Scratch.ended.Goals as goal

pub returns-clause-room : goal.returns-clause-room
returns-clause-room c = omega (arith, simp length-append at (ap length c.rows.ensures), rows_length c.args.set)
