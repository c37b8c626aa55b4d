-- What is read lies within the buffer, whose length stays, and is what the reader lost. Each turn reads a byte at least.
use Rattle.std.proofs.Common.{◌≡◌, ◌≤◌, ◌-◌, length, take}
use Rattle.std.specs.Io.KnownBytes.{Consumes}
use Rattle.files.proofs.read_file.Given as goal

abbrev pub invariant-loop-at : goal.invariant-loop-at
invariant-loop-at g l =
    (l.at ≤ length l.buf) × (length l.buf ≡ length l.fn.buf)
    × Consumes (g.R.Read.remaining l.initial.file) (g.R.Read.remaining l.file) (take l.at l.buf)

abbrev pub decreases-loop-at : goal.decreases-loop-at
decreases-loop-at g l = length l.fn.buf - l.at
