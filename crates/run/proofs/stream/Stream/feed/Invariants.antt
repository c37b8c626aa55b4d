-- `run::stream::Stream::feed` meets its contract. The loop's invariant: what is left of the piece, taken from here, gives what the whole piece gives, and the
-- state is legal. The measure is what is left of the piece: a turn is the quick way as far as it goes, and one line more.
use Rattle.std.proofs.Common.{◌≡◌, ◌-◌, ◌≤◌, length}
use Rattle.run.specs.Standing.{Stands}
use Rattle.run.specs.Fed.{at_of, from_place, piece_taken}
use Rattle.run.proofs.stream.Stream.feed.Given as goal

abbrev pub invariant-loop-at : goal.invariant-loop-at
invariant-loop-at l =
    (l.at.taken ≤ length l.piece)
    × (length l.out ≡ length l.initial.out)
    × (l.fill ≤ length l.initial.out → l.at.fill ≤ length l.initial.out)
    × (Stands l.c l.initial.self.state
    → Stands l.c l.self.state
    × (from_place l.c.plan (at_of l.self) l.piece l.at.taken l.out l.at.fill ≡ piece_taken l.c.plan (at_of l.initial.self) l.piece l.initial.out l.fill))

abbrev pub decreases-loop-at : goal.decreases-loop-at
decreases-loop-at l = length l.piece - l.at.taken
