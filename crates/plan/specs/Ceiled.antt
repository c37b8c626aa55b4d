-- A plan with the ceilings of its resources.
use Rattle.below.specs.Listed.{listed}
use Rattle.plan.specs.declared.Plan.{Plan}
use Rattle.plan.specs.declared.CeiledPlan.{CeiledPlan}
use Rattle.plan.specs.Limits.{most_resources}
use Rattle.plan.specs.Ceiling.{ceiling}

abbrev pub ceiled : Plan → CeiledPlan
ceiled p = record { plan = p; ceilings = listed most_resources (ceiling p) }
