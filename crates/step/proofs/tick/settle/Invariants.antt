-- After so many turns the choice is that of the state, and as many turns of the definition are left.
use Rattle.state.specs.Sized.{Sized}
use Rattle.choice.specs.Lent.{Lent}
use Rattle.step.proofs.Settling.{Settling}
use Rattle.step.proofs.tick.settle.Given as goal

abbrev pub invariant-loop-turn : goal.invariant-loop-turn
invariant-loop-turn l = Lent l.c l.fn.s → Sized l.fn.s → Settling l.c.plan (record { state = l.fn.s; ended = 0 }) (record { state = l.s; ended = l.ended }) l.x l._turn
