-- The tasks below `t` are done.
use Rattle.std.proofs.Common.{◌≡◌}
use Rattle.reader.specs.Reading.{opened}
use Rattle.reader.proofs.build.open.Given as goal

abbrev pub invariant-loop-t : goal.invariant-loop-t
invariant-loop-t l = l.lengths ≡ opened l.t l.r l.initial.lengths
