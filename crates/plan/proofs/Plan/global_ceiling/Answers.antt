use Rattle.std.proofs.Common.{rules, refl, ◌∙◌, tests}
use Rattle.below.proofs.Chains.{first_over}
use Rattle.plan.specs.Ceiling.{global_ceiling}
use Rattle.plan.specs.Parts.{declares_at}
use Rattle.plan.proofs.Plan.global_ceiling.Goals as goal

pub returns : goal.returns
unfolding global_ceiling declares_at
returns c = c.unwrap_or.ensures ∙ first_over _ _ _ _ _ c.find.ensures.ran refl (λ x b q k. search (rules, tests))
