-- "The run program": what a run stands on from line to line. A legal state stays legal, and its lists keep the lengths of their arrays.
use Rattle.plan.specs.declared.CeiledPlan.{CeiledPlan}
use Rattle.state.specs.declared.State.{State}
use Rattle.state.specs.Sized.{Sized}
use Rattle.choice.specs.Lent.{Lent}

-- a plan and a state that may be lent, with lists of the right lengths
pub record Stands (c : CeiledPlan) (s : State) : Type 0 where
  pub lent : Lent c s
  pub sized : Sized s
