-- `run::stream::Stream::feed_roomy` meets its contract. The loop's invariant: what is left of the piece, taken from here, gives what it gives from the first
-- place on; no byte is kept, end is the next line feed, and the state is legal. The measure is what is left of the piece.
use Rattle.std.proofs.Common.{◌≡◌, ◌+◌, ◌-◌, ◌≤◌, length, drop}
use Rattle.text.specs.Lines.{line_feed, until}
use Rattle.run.specs.Standing.{Stands}
use Rattle.run.specs.Fed.{kept_of, at_of, from_place}
use Rattle.run.proofs.stream.Stream.feed_roomy.Given as goal

abbrev pub invariant-loop-end : goal.invariant-loop-end
invariant-loop-end l =
    (l.at ≤ l.taken)
    × (l.taken ≤ length l.piece)
    × (l.end ≡ l.taken + until line_feed (drop l.taken l.piece))
    × (length l.out ≡ length l.initial.out)
    × (l.fill ≤ length l.initial.out → l.filled ≤ length l.initial.out)
    × (length (kept_of l.self.kept) ≡ 0)
    × (Stands l.c l.initial.self.state
    → Stands l.c l.self.state
    × (from_place l.c.plan (at_of l.self) l.piece l.taken l.out l.filled ≡ from_place l.c.plan (at_of l.initial.self) l.piece l.at l.initial.out l.fill))

abbrev pub decreases-loop-end : goal.decreases-loop-end
decreases-loop-end l = length l.piece - l.taken
