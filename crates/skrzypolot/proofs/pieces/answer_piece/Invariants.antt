-- The run stands where the definition says, and what was written out and what the buffer holds are what it prints of the bytes taken so far. Each turn
-- takes some bytes, or empties a buffer that was not empty: an empty one has room for any line.
use Rattle.std.proofs.Common.{◌≡◌, ◌+◌, ◌*◌, ◌-◌, ◌≤◌, length, take}
use Rattle.run.specs.Standing.{Stands}
use Rattle.run.specs.Fed.{at_of}
use Rattle.skrzypolot.specs.Went.{Went}
use Rattle.skrzypolot.proofs.pieces.answer_piece.Given as goal

abbrev pub invariant-loop-at : goal.invariant-loop-at
invariant-loop-at l =
    (l.at ≤ length l.piece)
    × (length l.out ≡ length l.initial.out)
    × (l.filled ≤ length l.initial.out)
    × Stands l.c l.s.state
    × Went l.c.plan (at_of l.initial.s) (take l.fn.fill l.initial.out) (take l.at l.piece) (at_of l.s) (take l.filled l.out)

abbrev pub decreases-loop-at : goal.decreases-loop-at
decreases-loop-at l = 2 * (length l.piece - l.at) + (1 - (1 - l.filled))
