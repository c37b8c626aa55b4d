use Rattle.std.proofs.Common.{◌≡◌, ◌+◌, ◌≤◌, length, drop, length-drop, refl, ◌∙◌, arith}
use Rattle.std.specs.Prelude.{Some, option_map}
use Rattle.choice.specs.Lent.{Lent}
use Rattle.line.proofs.Parts.{to_end}
use Rattle.run.specs.declared.stream.Fed.{Fed}
use Rattle.run.specs.Standing.{Stands}
use Rattle.run.specs.Stream.{fed, fed_printed}
use Rattle.run.specs.Fed.{Put, first_line, at_of, taken_of, from_place, piece_taken}
use Rattle.run.proofs.FirstLines.{first_some, first_within}
use Rattle.run.proofs.LineLoop.{place_start, place_end, place_on, place_stop, turn_stands}
use Rattle.run.proofs.stream.Stream.feed.Goals.{After-feed_line, After-feed_roomy-at, Else-at-piece, In-Some}
use Rattle.run.proofs.stream.Stream.feed.Goals as goal

pub loop-at-init : goal.loop-at-init
loop-at-init c = (omega arith, refl, λ h. h, λ l. (l, place_start _ _ _ _ _))

-- the quick way: the state stays legal, what is left behind it gives the same, and the fill stays within
quick : (c : After-feed_roomy-at)
    → let a = c.args in
    let r = c.feed_roomy-at.result in
    Stands a.c.now a.self.now.state
    → Stands a.c.now c.feed_roomy-at.new.self.state
    × (from_place a.c.now.plan (at_of c.feed_roomy-at.new.self) a.piece.now r.taken c.feed_roomy-at.new.out r.fill ≡ piece_taken a.c.now.plan (at_of a.self.now) a.piece.now a.out.now a.fill)
quick c h =
    let l = c.loop-at in
    let e = c.feed_roomy-at.ensures.2 (l.invariant.3 h).0 in
    (e.0, e.1 ∙ (l.invariant.3 h).1)

filled : (c : After-feed_roomy-at)
    → let a = c.args in
    a.fill ≤ length a.out.now → c.feed_roomy-at.result.fill ≤ length a.out.now
filled c h =
    let l = c.loop-at in
    let m = l.invariant.2 h in
    omega (arith, l.invariant.1, c.feed_roomy-at.ensures.1.filled (omega (arith, l.invariant.1)))

pub returns-then-at-piece : goal.returns-then-at-piece
unfolding taken_of
returns-then-at-piece c =
    let d = (goal.at.returns-then-at-piece c).After-feed_roomy-at in
    let a = c.args in
    let r = c.feed_roomy-at.result in (
      record { taken = c.feed_roomy-at.ensures.1.taken; filled = filled d },
      λ h. place_end a.c.now.plan (at_of c.feed_roomy-at.new.self) a.piece.now r.taken _ r.fill (omega (arith, c.if-at-piece.true)) ∙ (quick d h).1,
    )

-- one line more: it is there
some : (c : Else-at-piece) → 1 ≤ length (drop c.feed_roomy-at.result.taken c.args.piece.now)
some c = rw length-drop (omega (arith, c.if-at-piece.false, c.feed_roomy-at.ensures.1.taken))

pub feed_line-requires : goal.feed_line-requires
feed_line-requires c = rw (to_end _ _) (some (goal.at.feed_line-requires c).Else-at-piece)

-- it is taken as it should be
turn : (c : After-feed_line)
    → let p = c.args.c.now.plan in
    let x = at_of c.feed_roomy-at.new.self in
    let line = first_line (drop c.feed_roomy-at.result.taken c.args.piece.now) in
    Lent c.args.c.now c.feed_roomy-at.new.self.state
    → Put x (fed p x line) (fed_printed p x line) c.feed_roomy-at.new.out c.feed_roomy-at.result.fill (option_map (λ (r : Fed). r.fill) c.feed_line.result) (at_of c.feed_line.new.self) c.feed_line.new.out
turn c h = rw (to_end c.args.piece.now c.feed_roomy-at.result.taken) at (c.feed_line.ensures.put h)

pub returns-in_default : goal.returns-in_default
unfolding taken_of
returns-in_default c =
    let d = (goal.at.returns-in_default c).After-feed_roomy-at in
    let a = c.args in
    let r = c.feed_roomy-at.result in (
      record { taken = c.feed_roomy-at.ensures.1.taken; filled = filled d },
      λ h.
          place_stop a.c.now.plan (at_of c.feed_roomy-at.new.self) a.piece.now r.taken _ r.fill (some (goal.at.returns-in_default c).Else-at-piece)
          (rw c.in_default.is at (turn (goal.at.returns-in_default c).After-feed_line (quick d h).0.lent))
          ∙ (quick d h).1,
    )

-- how much is taken of the piece then
many : (c : In-Some) → c.in-Some.line.taken ≡ length (first_line (drop c.feed_roomy-at.result.taken c.args.piece.now))
many c = rw (to_end c.args.piece.now c.feed_roomy-at.result.taken) at c.in-Some.ensures.within.0

within : (c : In-Some) → c.feed_roomy-at.result.taken + c.in-Some.line.taken ≤ length c.args.piece.now
within c =
    let t = drop c.feed_roomy-at.result.taken c.args.piece.now in
    omega (arith, many c, first_within t, length-drop c.feed_roomy-at.result.taken c.args.piece.now, c.feed_roomy-at.ensures.1.taken)

pub overflow_add-at : goal.overflow_add-at
overflow_add-at c = omega (arith, within (goal.at.overflow_add-at c).In-Some)

pub loop-at-smaller : goal.loop-at-smaller
loop-at-smaller c =
    let d = goal.at.loop-at-smaller c in
    omega (arith, c.loop-at-test.true, many d.In-Some, first_some _ (some d.Else-at-piece), within d.In-Some, c.feed_roomy-at.ensures.0)

pub loop-at-preserved : goal.loop-at-preserved
unfolding at_of
loop-at-preserved c =
    let d = goal.at.loop-at-preserved c in
    let a = c.args in
    let p = a.c.now.plan in
    let x = at_of c.feed_roomy-at.new.self in
    let r = c.feed_roomy-at.result in
    let k : length c.feed_roomy-at.new.out ≡ length a.out.now = c.feed_roomy-at.auto.out ∙ c.loop-at.invariant.1 in (
      within d.In-Some,
      c.feed_line.auto.out ∙ k,
      λ h. omega (arith, k, c.in-Some.ensures.within.1 (omega (arith, k, filled d.After-feed_roomy-at h))),
      λ h.
          let q = quick d.After-feed_roomy-at h in
          let w = rw c.in-Some.is at (turn d.After-feed_line q.0.lent) in (
            turn_stands a.c.now x (first_line (drop r.taken a.piece.now)) _ _ r.fill c.feed_line.new.self w q.0,
            rw (many d.In-Some) (place_on p x a.piece.now r.taken _ r.fill (some d.Else-at-piece) w) ∙ q.1,
          ),
    )

pub returns : goal.returns
unfolding taken_of
returns c =
    let l = c.loop-at in
    let a = c.args in (
      record { taken = l.invariant.0; filled = l.invariant.2 },
      λ h. place_end a.c.now.plan (at_of l.self) a.piece.now l.at.taken l.out l.at.fill c.loop-at-test.false ∙ (l.invariant.3 h).1,
    )
