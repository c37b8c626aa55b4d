use Rattle.std.proofs.Common.{rules, ◌∙◌}
use Rattle.below.proofs.Chains.{greatest_over}
use Rattle.plan.specs.Admission.{blocking}
use Rattle.plan.specs.Parts.{blocking_at}
use Rattle.plan.proofs.Plan.blocking.Goals as goal

pub returns : goal.returns
unfolding blocking blocking_at
returns c = c.unwrap_or.ensures ∙ greatest_over _ _ _ _ c.max.ensures.ran c.map.ensures.source c.map.ensures.closure (λ x r q k. search rules)
