use Rattle.std.proofs.Common.{◌≡◌, ◌≤◌, length, drop, length-drop, sym, ◌∙◌, rules, arith}
use Rattle.choice.specs.Lent.{Lent}
use Rattle.run.specs.Lined.{lined, lined_state, lined_out}
use Rattle.run.specs.Fed.{first_line}
use Rattle.run.proofs.AsFarLaws.{leads_end, ok_or_some, ok_or_none, passed_on}
use Rattle.run.proofs.FirstLines.{first_within}
use Rattle.run.proofs.PutLines.{left_start, left_end, left_over, turn_room, turn_none, turn_stands, first_lent}
use Rattle.run.proofs.whole.run_lines.Goals.{After-line_end-end, After-line_step}
use Rattle.run.proofs.whole.run_lines.Goals as goal

pub loop-number-init : goal.loop-number-init
loop-number-init c =
    let a = c.args in
    (omega arith, λ h. (record { lent = h; sized = record { left = search rules; refill = search rules; used = search rules; conditions = search rules; waits = search rules; counts = search rules; held = search rules } }, left_start a.c.now.plan a.s a.events.now a.out.now a.fill))

pub returns-then-at-events : goal.returns-then-at-events
returns-then-at-events c =
    let l = c.loop-number in
    λ h. leads_end (rw (left_end c.args.c.now.plan l.state l.number c.args.events.now l.at (omega (arith, c.if-at-events.true))) at (l.invariant.1 h).1)

-- one turn: the next line is there, ends within the text, and is stepped as it should be
some : (c : After-line_end-end) → 1 ≤ length (drop c.loop-number.at c.args.events.now)
some c = rw length-drop (omega (arith, c.if-at-events.false, c.loop-number.invariant.0))

within : (c : After-line_end-end) → c.line_end-end.result ≤ length c.args.events.now
within c =
    let at = c.loop-number.at in
    let t = c.args.events.now in
    omega (arith, c.line_end-end.ensures, first_within (drop at t), length-drop at t, c.if-at-events.false, c.loop-number.invariant.0)

turn : (c : After-line_step)
    → let l = c.loop-number in
    let a = c.args in
    Lent a.c.now a.s
    → (c.line_step.result ≡ lined a.c.now.plan l.state l.number (first_line (drop l.at a.events.now)) l.out l.filled)
    × (c.line_step.new.s ≡ lined_state a.c.now.plan l.state l.number (first_line (drop l.at a.events.now)) l.out l.filled)
    × (c.line_step.new.out ≡ lined_out a.c.now.plan l.state l.number (first_line (drop l.at a.events.now)) l.out l.filled)
turn c h =
    let l = c.loop-number in
    let a = c.args in
    rw (first_lent a.events.now l.at _ c.line_end-end.ensures) at (c.line_step.ensures.lined (l.invariant.1 h).0.lent)

pub slice_bounds-line-end : goal.slice_bounds-line-end
slice_bounds-line-end c = within (goal.at.slice_bounds-line-end c).After-line_end-end

pub returns-in_err-l : goal.returns-in_err-l
returns-in_err-l c h =
    let l = c.loop-number in
    let a = c.args in
    let q = ok_or_none _ _ (sym c.ok_or.ensures.value ∙ c.in_err-l.was) in
    let e = turn (goal.at.returns-in_err-l c).After-line_step h in
    rw (passed_on c.from_residual.ensures.1 q.1)
    (turn_none a.c.now.plan l.state l.number a.events.now l.at l.out l.filled (some (goal.at.returns-in_err-l c).After-line_end-end) (omega (arith, c.loop-number-test.true)) (l.invariant.1 h).1 (sym q.0 ∙ e.0) e.1 e.2)

pub loop-number-preserved : goal.loop-number-preserved
loop-number-preserved c =
    let l = c.loop-number in
    let a = c.args in
    let q = ok_or_some _ _ (sym c.ok_or.ensures.value ∙ c.in_ok-l.was) in (
      within (goal.at.loop-number-preserved c).After-line_end-end,
      λ h.
          let e = turn (goal.at.loop-number-preserved c).After-line_step h in (
            turn_stands a.c.now l.state l.number a.events.now l.at l.out l.filled (sym q ∙ e.0) e.1 e.2 (l.invariant.1 h).0,
            rw c.line_end-end.ensures
                (turn_room a.c.now.plan l.state l.number a.events.now l.at l.out l.filled (some (goal.at.loop-number-preserved c).After-line_end-end) (omega (arith, c.loop-number-test.true)) (l.invariant.1 h).1 (sym q ∙ e.0) e.1 e.2),
          ),
    )

pub returns-after-loop-number : goal.returns-after-loop-number
returns-after-loop-number c =
    let l = c.loop-number in
    λ h. leads_end (rw (left_over c.args.c.now.plan l.state l.number (drop l.at c.args.events.now) (omega (arith, c.loop-number-test.false))) at (l.invariant.1 h).1)
