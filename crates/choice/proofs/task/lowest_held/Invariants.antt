-- A row is below lowest exactly if it is below low and below each ceiling passed.
use Rattle.std.proofs.Common.{◌≡◌, ◌&&◌, ℕ, ltb}
use Rattle.below.specs.Below.{all}
use Rattle.choice.specs.Columns.{local_at}
use Rattle.choice.proofs.task.lowest_held.Given as goal

abbrev pub invariant-loop-i : goal.invariant-loop-i
invariant-loop-i l = (t : ℕ) → ltb t l.lowest ≡ (ltb t l.low && all l.i (λ j. ltb t (local_at l.c l.s l.k j)))
