-- `run::stream::Stream::finish` meets its contract: nothing is kept, or no more lines are answered, or the kept bytes are the last line.
use Rattle.std.proofs.Common.{◌≡◌, [], refl, sym, ap, ◌∙◌, arith, le-leb}
use borrow.Author.Tests.{lt-leb}
use Rattle.run.specs.Stream.{is_going, line_printed, end_printed}
use Rattle.run.specs.Fed.{at_of, whole_line}
use Rattle.run.proofs.KeptBytes.{none_of}
use Rattle.run.proofs.TakenLines.{fill_quiet, out_quiet, end_empty, end_over, end_some, step_room, step_none, answer_room, answer_none}
use Rattle.run.proofs.stream.Stream.finish.Goals.{After-line_step, Joined-then-n-eq0, then-n-eq0-via-then-n-eq0, then-n-eq0-via-else-n-eq0+then-self-gt9999999}
use Rattle.run.proofs.stream.Stream.finish.Goals as goal

-- there is no last line
none : (c : Joined-then-n-eq0) → end_printed c.args.c.now.plan (at_of c.args.self.now) ≡ []
unfolding at_of is_going
none c =
    let p = c.args.c.now.plan in
    let x = at_of c.args.self.now in
    elim c.then-n-eq0.branch [
      | then-n-eq0-via-then-n-eq0 w ↦ end_empty p x (none_of _ (omega (arith, w.if-n-eq0.true, c.len-n.ensures.count)))
      | then-n-eq0-via-else-n-eq0+then-self-gt9999999 w ↦ end_over p x (lt-leb c.args.self.now.number 9999999 (omega (arith, w.if-self-gt9999999.true)))
    ]

pub returns-then-n-eq0-clause-put : goal.returns-then-n-eq0-clause-put
returns-then-n-eq0-clause-put c l =
    let a = c.args in
    rw (none c) (sym (fill_quiet a.out.now a.fill), sym (out_quiet a.out.now a.fill))

-- the kept bytes are the last line
last : (c : After-line_step) → (c.len-n.result ≡ 0 → ⊥)
    → end_printed c.args.c.now.plan (at_of c.args.self.now) ≡ line_printed c.args.c.now.plan (whole_line (at_of c.args.self.now) c.as_slice.result.now)
unfolding at_of whole_line
last c h =
    let a = c.args in
    end_some a.c.now.plan (at_of a.self.now) (omega (arith, h, c.len-n.ensures.count))
    ∙ ap (λ k. line_printed a.c.now.plan (whole_line (at_of a.self.now) k)) (sym c.as_slice.ensures)

pub returns-in_err-l-clause-put : goal.returns-in_err-l-clause-put
unfolding at_of is_going
returns-in_err-l-clause-put c l =
    let a = c.args in
    let s = a.self.now in
    let e = c.line_step.ensures.lined l in
    let r = step_none a.c.now.plan s.state s.number c.as_slice.result.now a.out.now a.fill (sym c.in_err-l.was ∙ e.0) e.1 e.2 in
    let w = answer_none a.c.now.plan (at_of s) c.as_slice.result.now a.out.now a.fill (le-leb s.number 9999999 (omega (arith, c.if-self-gt9999999.false))) r.0 refl r.2 in
    rw (c.from_residual.ensures, last (goal.at.returns-in_err-l-clause-put c).After-line_step c.if-n-eq0.false) (w.filled, w.written)

pub returns-clause-put : goal.returns-clause-put
unfolding at_of is_going
returns-clause-put c l =
    let a = c.args in
    let s = a.self.now in
    let e = c.line_step.ensures.lined l in
    let r = step_room a.c.now.plan s.state s.number c.as_slice.result.now a.out.now a.fill (sym c.in_ok-l.was ∙ e.0) e.1 e.2 in
    let w = answer_room a.c.now.plan (at_of s) c.as_slice.result.now a.out.now a.fill (le-leb s.number 9999999 (omega (arith, c.if-self-gt9999999.false))) r.0 r.1 in
    rw (last (goal.at.returns-clause-put c).After-line_step c.if-n-eq0.false) (w.filled, w.written)
