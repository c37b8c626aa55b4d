use Rattle.std.proofs.Common.{rules, refl, ◌∙◌, tests}
use Rattle.below.proofs.Chains.{first_over}
use Rattle.plan.specs.Plan.{foremost}
use Rattle.plan.specs.Ceiling.{local_ceiling}
use Rattle.plan.proofs.Plan.local_ceiling.Goals as goal

pub returns : goal.returns
unfolding local_ceiling foremost
returns c = c.unwrap_or.ensures ∙ first_over _ _ _ _ _ c.find.ensures.ran refl (λ x b q k. search (rules, tests))
