-- The small proved set holds: antt computes each case from the definitions.
use mathlib.Core.Path.{refl}
use Rattle.promise.specs.SmallSet.{AllHold, small_set, plan_with, events}
use Rattle.promise.proofs.Opened.{computes}

pub small_set_holds : AllHold small_set
unfolding computes plan_with events
small_set_holds = (refl, (refl, (refl, (refl, (refl, (refl, (refl, (refl, (refl, (refl, (refl, ((refl, refl), tt))))))))))))
