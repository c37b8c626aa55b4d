use Rattle.std.proofs.Common.{◌≡◌, ◌+◌, length, drop, ◌∙◌, arith}
use Rattle.run.specs.Fed.{first_line}
use Rattle.run.proofs.PutLines.{first_lent}
use Rattle.run.proofs.RoomyLines.{feed_there, line_ends, place_put, put_stands}
use Rattle.run.proofs.stream.Stream.feed_roomy.Goals as goal

-- the line lies in the piece, and is put as it should be
pub loop-end-preserved : goal.loop-end-preserved
loop-end-preserved c =
    let l = c.loop-end in
    let a = c.args in
    let s = l.self.state in
    let n = l.self.number in
    let piece = a.piece.now in
    let k : length l.out ≡ length a.out.now = l.invariant.3 in
    let ends : l.end + 1 ≡ l.taken + length (first_line (drop l.taken piece)) = line_ends piece l.taken l.end l.invariant.2 c.loop-end-test.true in
    let there = feed_there piece l.taken l.end l.invariant.2 c.loop-end-test.true in
    let going = (c.is_roomy.ensures c.if-is_roomy.true).0 in (
      omega (arith, l.invariant.0, l.invariant.2),
      omega (arith, c.loop-end-test.true),
      c.find-end-in-loop-end.ensures,
      c.line_in-filled.auto.out ∙ k,
      λ h. omega (arith, c.line_in-filled.ensures.within),
      l.invariant.5,
      λ h.
          let w = rw (first_lent piece l.taken (l.end + 1) ends) at (c.line_in-filled.ensures.put (l.invariant.6 h).0.lent) in (
            put_stands a.c.now s n w (l.invariant.6 h).0,
            rw ends (place_put a.c.now.plan s n piece l.taken l.out l.filled going there w l.self.kept l.invariant.5 c.line_in-filled.ensures.within) ∙ (l.invariant.6 h).1,
          ),
    )
