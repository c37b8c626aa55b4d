-- Count and fill lie within their buffers, and the state is legal.
use Rattle.std.proofs.Common.{◌≤◌, length}
use Rattle.std.specs.Counts.{IsPrefixLen}
use Rattle.run.specs.Standing.{Stands}
use Rattle.skrzypolot.proofs.events.run_pieces.Given as goal

abbrev pub invariant-loop : goal.invariant-loop
invariant-loop l = IsPrefixLen l.g.count l.piece × (l.g.fill ≤ length l.out) × (128 ≤ length l.out) × Stands l.c l.s.state
