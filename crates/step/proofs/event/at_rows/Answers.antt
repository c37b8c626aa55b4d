-- A refusal keeps the state; otherwise the second choice is that of the state left behind, which is legal.
use Rattle.std.proofs.Common.{refl, sym, ap, ◌∙◌, arith}
use Rattle.step.specs.Refused.{refused_number}
use Rattle.step.proofs.Asking.{number_some}
use Rattle.step.proofs.Kept.{Kept}
use Rattle.step.proofs.Answering.{answered_is, running_is, answers_by, answered_by, stepped_refused, stepped_done, after_lent}
use Rattle.step.proofs.WholeTick.{count_most}
use Rattle.step.proofs.event.at_rows.Goals as goal

pub returns-in-Some : goal.returns-in-Some
returns-in-Some c = λ l z.
    let C = c.choose-x.ensures l in
    let m = c.number.ensures ∙ ap refused_number (sym c.in-Some.is) ∙ c.refusal.ensures _ (record { of_task = c.task.ensures; of_running = running_is _ _ _ _ C c.runs-running.ensures }) in
    answers_by _ _ _
    (answered_is _ _ _ _ C c.runs-running.ensures _ ∙ stepped_refused _ _ _ _ _ _ m (λ e. omega (arith, e, c.number.ensures, number_some c.in-Some.refusal)))

pub returns : goal.returns
returns c = λ l z.
    let p = c.args.c.now.plan in
    let s = c.args.s.now in
    let C = c.choose-x.ensures l in
    let S : Kept p s = record { sized = z; legal = l.legal } in
    let m = ap refused_number (sym c.in_default.is) ∙ c.refusal.ensures _ (record { of_task = c.task.ensures; of_running = running_is _ _ _ _ C c.runs-running.ensures }) in
    let e = c.done-n.ensures (omega (arith, count_most p s l.accepted S c.args.k)) ∙ stepped_done _ _ _ _ _ 0 m refl in
    answered_by _ _ _ _ _ (c.answered.ensures (after_lent _ _ l z _ _ _ _ _ e)) e
