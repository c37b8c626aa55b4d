-- `run::lines::line_step` meets its contract: the line is read, its event stepped, and the outcome printed; without room nothing is taken over.
use Rattle.std.proofs.Common.{sym, ◌∙◌}
use Rattle.line.proofs.Room.{fill_within}
use Rattle.run.proofs.LineSteps.{lined_room, lined_none}
use Rattle.run.proofs.lines.line_step.Goals as goal

pub returns-in_err-end-clause-lined : goal.returns-in_err-end-clause-lined
returns-in_err-end-clause-lined c l =
    let a = c.args in
    let e = c.line_answer-a.ensures l in
    rw c.from_residual.ensures (lined_none a.c.now.plan a.s.now a.number a.line.now a.out.now a.fill e.0 e.1 c.print.ensures c.in_err-end.was)

pub returns-clause-lined : goal.returns-clause-lined
returns-clause-lined c l =
    let a = c.args in
    let e = c.line_answer-a.ensures l in
    lined_room a.c.now.plan a.s.now a.number a.line.now a.out.now a.fill e.0 e.1 c.print.ensures c.in_ok-end.was

pub returns-clause-within : goal.returns-clause-within
returns-clause-within c h = fill_within c.args.out.now c.args.fill _ h _ (sym c.in_ok-end.was ∙ c.print.ensures.0)
