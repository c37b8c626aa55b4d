-- `run::lines::line_in` meets its contract: the line is read, its event stepped, and the outcome printed, which has room.
use Rattle.std.proofs.Common.{◌≡◌, ◌≤◌, length, arith}
use Rattle.std.specs.Prelude.{Some}
use Rattle.line.proofs.Short.{answer_length}
use Rattle.run.proofs.LineSteps.{put_line}
use Rattle.run.proofs.RoomyLines.{roomy}
use Rattle.run.proofs.lines.line_in.Goals.{After-unwrap_or}
use Rattle.run.proofs.lines.line_in.Goals as goal

-- the printed line is short, so that it has room
back : (c : After-unwrap_or) → (c.print.result ≡ Some c.unwrap_or.result) × (c.unwrap_or.result ≤ length c.args.out.now)
back c =
    let n = c.args.number in
    let w = c.ranges in
    let o = c.line_answer-a.result in
    let k = c.line_answer-a.type_inv in
    let s = answer_length n o.answer o.subsystem o.task o.ended (omega (arith, w)) (omega (arith, k)) (omega (arith, k)) (omega (arith, k)) in
    roomy c.args.out.now c.args.fill _ (omega (arith, s)) c.requires c.print.ensures.0 c.unwrap_or.ensures

pub returns-clause-within : goal.returns-clause-within
returns-clause-within c = (back c).1

pub returns-clause-put : goal.returns-clause-put
returns-clause-put c l =
    let a = c.args in
    let e = c.line_answer-a.ensures l in
    put_line a.c.now.plan a.s.now a.number a.line.now a.out.now a.fill e.0 e.1 c.print.ensures (back c).0
