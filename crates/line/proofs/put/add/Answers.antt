-- `line::put::add` meets its contract: the line stands behind the fill where it fits.
use Rattle.std.proofs.Common.{sym, length-drop, arith}
use Rattle.line.proofs.Room.{fill_room, out_put, fill_none, out_none}
use Rattle.line.proofs.put.add.Goals as goal

pub returns-then-out-fill : goal.returns-then-out-fill
returns-then-out-fill c =
    let a = c.args in
    let h = length-drop a.fill a.out.now in
    (sym (fill_none a.out.now a.fill a.line.now (omega arith)), sym (out_none a.out.now a.fill a.line.now (omega arith)))

pub returns-then-out-fill-2 : goal.returns-then-out-fill-2
returns-then-out-fill-2 c =
    let a = c.args in
    let h = length-drop a.fill a.out.now in
    (sym (fill_none a.out.now a.fill a.line.now (omega arith)), sym (out_none a.out.now a.fill a.line.now (omega arith)))

pub returns : goal.returns
returns c =
    let a = c.args in
    let h = length-drop a.fill a.out.now in
    (sym (fill_room a.out.now a.fill a.line.now (omega arith)), out_put a.out.now a.fill a.line.now c.copy_from_slice.ensures.after (omega arith))
