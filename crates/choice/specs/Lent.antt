-- What a choice is lent: an accepted plan, the ceilings of the resources that it has, and a state that is legal for it.
use Rattle.std.specs.Prelude.{◌≡◌, ℕ, ◌<◌, get_or}
use Rattle.plan.specs.declared.CeiledPlan.{CeiledPlan}
use Rattle.plan.specs.Ceiling.{ceiling}
use Rattle.plan.specs.Facts.{Accepted}
use Rattle.state.specs.declared.State.{State}
use Rattle.legal.specs.Facts.{Legal}

pub record Lent (c : CeiledPlan) (s : State) : Type 0 where
  pub accepted : Accepted c.plan
  pub ceilings : (r : ℕ) → r < c.plan.resources → get_or c.ceilings r 0 ≡ ceiling c.plan r
  pub legal : Legal c.plan s
