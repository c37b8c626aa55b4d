use Rattle.std.proofs.Common.{arith}
use Rattle.line.proofs.Rows.{rows_first, row_room, row_in, row_out, rows_last}
use Rattle.line.proofs.scratch.Scratch.rows.Goals as goal

pub loop-row-init : goal.loop-row-init
loop-row-init c = rows_first _ _ _ (omega arith)

pub joined-requires : goal.joined-requires
joined-requires c = (row_room c.loop-row.invariant (omega arith) c.requires, omega arith)

pub loop-row-preserved-then-set-row-eq1 : goal.loop-row-preserved-then-set-row-eq1
loop-row-preserved-then-set-row-eq1 c =
    row_in c.loop-row.invariant (omega arith) (omega arith) c.if-set-row-eq1.true c.joined.ensures

pub loop-row-preserved : goal.loop-row-preserved
loop-row-preserved c = row_out c.loop-row.invariant (omega arith) c.if-set-row-eq1.false

pub returns : goal.returns
returns c = rows_last c.loop-row.invariant (omega arith)
