-- What (a) leaves is legal with nothing used up, so that (b) and (c) have room.
use Rattle.std.proofs.Common.{ap, ◌∙◌, arith}
use Rattle.step.specs.Tick.{refilled}
use Rattle.step.proofs.Kept.{Kept}
use Rattle.step.proofs.Answering.{answers_by}
use Rattle.step.proofs.WholeTick.{ticked_idle, waited_room, used_room, ticked_in}
use Rattle.step.proofs.tick.tick.Goals as goal
use Rattle.step.proofs.tick.tick.Goals.{then-x, else-x}

pub returns : goal.returns
returns c = λ l z.
    let p = c.args.c.now.plan in
    let A = l.accepted in
    let S : Kept p c.args.s.now = record { sized = z; legal = l.legal } in
    let T = c.settle-x.ensures l z in
    answers_by _ _ _
    (elim c.if-x.branch [
      | then-x w ↦
          let given = w.give_waited.ensures (waited_room p _ A S _ _ T) in
          rw w.task-is
          (ticked_in p _ A S _ _ T w.if-x.true _ _ _ _ _ _ given w.runs-task.ensures w.charge.ensures
          (w.run.ensures (used_room p _ A S _ _ T _ given _ w.charge.ensures _)) c.tick_answer.ensures (c.refill.ensures ∙ ap (refilled p) w.s-is))
      | else-x w ↦ rw w.task-is (ticked_idle p _ A S _ _ T (omega arith) _ _ c.tick_answer.ensures (c.refill.ensures ∙ ap (refilled p) w.s-is))
    ])
