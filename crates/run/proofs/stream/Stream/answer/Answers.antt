-- `run::stream::Stream::answer` meets its contract: past the last line nothing is printed; otherwise the line step says whether the printed line had room.
use Rattle.std.proofs.Common.{sym, ap, ◌∙◌, arith, le-leb}
use borrow.Author.Tests.{lt-leb}
use Rattle.state.specs.declared.State.{State}
use Rattle.run.specs.Stream.{is_going}
use Rattle.run.specs.Fed.{kept_of, at_of}
use Rattle.run.proofs.TakenLines.{step_room, step_none, answer_over, answer_none, answer_room}
use Rattle.run.proofs.stream.Stream.answer.Goals as goal

pub returns-then-number-gt9999999-clause-put : goal.returns-then-number-gt9999999-clause-put
unfolding at_of is_going
returns-then-number-gt9999999-clause-put c l =
    let a = c.args in
    rw c.nothing-self.ensures
    (answer_over a.c.now.plan (at_of a.self.now) a.line.now a.out.now a.fill (lt-leb a.self.now.number 9999999 (omega (arith, c.if-number-gt9999999.true))))

pub returns-in_err-l-clause-put : goal.returns-in_err-l-clause-put
unfolding at_of is_going
returns-in_err-l-clause-put c l =
    let a = c.args in
    let s = a.self.now in
    let e = c.line_step.ensures.lined l in
    let r = step_none a.c.now.plan s.state s.number a.line.now a.out.now a.fill (sym c.in_err-l.was ∙ e.0) e.1 e.2 in
    rw c.from_residual.ensures
    (answer_none a.c.now.plan (at_of s) a.line.now a.out.now a.fill (le-leb s.number 9999999 (omega (arith, c.if-number-gt9999999.false))) r.0
    (ap (λ (u : State). record { state = u; number = s.number; kept = kept_of s.kept }) r.1) r.2)

pub returns-clause-put : goal.returns-clause-put
unfolding at_of is_going
returns-clause-put c l =
    let a = c.args in
    let s = a.self.now in
    let e = c.line_step.ensures.lined l in
    let r = step_room a.c.now.plan s.state s.number a.line.now a.out.now a.fill (sym c.in_ok-l.was ∙ e.0) e.1 e.2 in
    rw c.nothing-self-2.ensures
    (answer_room a.c.now.plan (at_of s) a.line.now a.out.now a.fill (le-leb s.number 9999999 (omega (arith, c.if-number-gt9999999.false))) r.0 r.1)
