-- The loop begins where the run stands, each turn keeps its state legal, and an empty buffer takes some.
use Rattle.std.proofs.Common.{◌≡◌, ◌+◌, ◌≤◌, ◌<◌, ℕ, length, drop, refl, ◌∙◌, arith, length-drop}
use Rattle.line.proofs.Parts.{to_end}
use Rattle.run.specs.Standing.{Stands}
use Rattle.run.specs.Fed.{at_of, taken_of, piece_taken}
use Rattle.run.proofs.RoomTakes.{takes_some}
use Rattle.skrzypolot.proofs.Through.{went_start, turn_stays, went_on, went_none, went_all}
use Rattle.skrzypolot.proofs.pieces.answer_piece.Goals.{After-feed-f}
use Rattle.skrzypolot.proofs.pieces.answer_piece.Goals as goal

pub loop-at-init : goal.loop-at-init
loop-at-init c = (omega arith, refl, omega arith, c.requires.2, went_start _ _ _)

-- no more is taken than the piece has
in_piece : (c : After-feed-f) → c.loop-at.at + c.feed-f.result.taken ≤ length c.args.piece.now
in_piece c =
    let w = rw (to_end c.args.piece.now c.loop-at.at) at c.feed-f.ensures.0.taken in
    omega (arith, length-drop c.loop-at.at c.args.piece.now)

-- what a turn takes of the rest of the piece
turn : (c : After-feed-f)
    → taken_of c.feed-f.new.self c.feed-f.result c.feed-f.new.out ≡ piece_taken c.args.c.now.plan (at_of c.loop-at.s) (drop c.loop-at.at c.args.piece.now) c.loop-at.out c.loop-at.filled
turn c = rw (to_end c.args.piece.now c.loop-at.at) at (c.feed-f.ensures.1 c.loop-at.invariant.3)

in_out : (c : After-feed-f) → c.loop-at.filled ≤ length c.loop-at.out
in_out c =
    let k = c.loop-at.invariant.1 in
    omega (arith, c.loop-at.invariant.2)

-- the state stays legal
stays : (c : After-feed-f) → Stands c.args.c.now c.feed-f.new.self.state
unfolding at_of
stays c =
    turn_stays c.args.c.now c.args.piece.now c.loop-at.at (at_of c.loop-at.s) c.loop-at.out c.loop-at.filled c.feed-f.new.self c.feed-f.result c.feed-f.new.out (turn c) (in_out c) c.loop-at.invariant.3

-- an empty buffer takes some
not_empty : (c : After-feed-f) → c.feed-f.result.taken ≡ 0 → 1 ≤ c.loop-at.filled
not_empty c z =
    let k = c.loop-at.invariant.1 in
    let n : c.loop-at.filled ≡ 0 → ⊥ = λ e.
    takes_some c.args.c.now.plan c.loop-at.invariant.3.lent.accepted (at_of c.loop-at.s) (drop c.loop-at.at c.args.piece.now) c.loop-at.out c.loop-at.filled
    (rw length-drop (omega (arith, c.loop-at-test.true))) (omega (arith, c.requires.1)) c.feed-f.new.self c.feed-f.result c.feed-f.new.out (turn c) z in
    omega (arith, n)

pub returns-in_err-write_out-clause-stands : goal.returns-in_err-write_out-clause-stands
returns-in_err-write_out-clause-stands c = stays (goal.at.returns-in_err-write_out-clause-stands c).After-feed-f

pub loop-at-smaller-then-f-eq0 : goal.loop-at-smaller-then-f-eq0
loop-at-smaller-then-f-eq0 c = omega (arith, not_empty (goal.at.loop-at-smaller-then-f-eq0 c).After-feed-f c.if-f-eq0.true)

pub loop-at-preserved-then-f-eq0 : goal.loop-at-preserved-then-f-eq0
loop-at-preserved-then-f-eq0 c =
    let d = (goal.at.loop-at-preserved-then-f-eq0 c).After-feed-f in
    let l = c.loop-at in (
      l.invariant.0,
      c.feed-f.auto.out ∙ l.invariant.1,
      omega arith,
      stays d,
      went_none c.args.c.now c.args.piece.now l.at (at_of l.s) l.out l.filled c.feed-f.new.self c.feed-f.result c.feed-f.new.out (turn d) (in_out d) _ _ c.if-f-eq0.true l.invariant.4,
    )

pub loop-at-preserved : goal.loop-at-preserved
loop-at-preserved c =
    let d = (goal.at.loop-at-preserved c).After-feed-f in
    let l = c.loop-at in
    let k = l.invariant.1 in (
      in_piece d,
      c.feed-f.auto.out ∙ l.invariant.1,
      omega (arith, c.feed-f.ensures.0.filled (in_out d)),
      stays d,
      went_on c.args.c.now c.args.piece.now l.at (at_of l.s) l.out l.filled c.feed-f.new.self c.feed-f.result c.feed-f.new.out (turn d) (in_out d) _ _ l.invariant.4,
    )

pub overflow_add-at : goal.overflow_add-at
overflow_add-at c = omega (arith, in_piece (goal.at.overflow_add-at c).After-feed-f)

falls : (u x v y : ℕ) → u + 2 ≤ v → x ≤ 1 → u + x < v + y
falls u x v y h k = omega arith

pub loop-at-smaller : goal.loop-at-smaller
loop-at-smaller c = falls _ _ _ _ (omega (arith, c.if-f-eq0.false, in_piece (goal.at.loop-at-smaller c).After-feed-f)) (omega arith)

pub returns-clause-went : goal.returns-clause-went
returns-clause-went c = went_all _ _ _ _ c.loop-at.at _ _ c.loop-at-test.false c.loop-at.invariant.4

pub returns-clause-stands : goal.returns-clause-stands
returns-clause-stands c = c.loop-at.invariant.3
