-- The rows that were written stand at the front of the buffer, one behind the other.
use Rattle.std.proofs.Common.{◌+◌, ◌*◌, ◌++◌}
use Rattle.below.specs.Listed.{listed}
use Rattle.state.specs.State.{task_at}
use Rattle.image.specs.Image.{subsystem_bytes, task_bytes, joined}
use Rattle.image.proofs.Written.{Begun}
use Rattle.image.proofs.images.write_image.Given as goal

abbrev pub invariant-loop-c : goal.invariant-loop-c
invariant-loop-c l = Begun l.image (8 * l.c) (joined (listed l.c (subsystem_bytes l.s)))

abbrev pub invariant-loop-k : goal.invariant-loop-k
invariant-loop-k l = Begun l.image (64 + 8 * l.k) (joined (listed 8 (subsystem_bytes l.s)) ++ joined (listed l.k (λ k. task_bytes (task_at l.s k))))
