use Rattle.std.proofs.Common.{rules, refl, ◌∙◌, tests}
use Rattle.below.proofs.Chains.{first_over}
use Rattle.plan.specs.Admission.{first_negative}
use Rattle.plan.proofs.Plan.first_negative.Goals as goal

pub returns : goal.returns
unfolding first_negative
returns c = c.unwrap_or.ensures ∙ first_over _ _ _ _ _ c.find.ensures.ran refl (λ x b q k. search (rules, tests))
