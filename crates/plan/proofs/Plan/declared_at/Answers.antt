use Rattle.std.proofs.Common.{rules, refl, tests}
use Rattle.below.proofs.Chains.{any_over}
use Rattle.plan.proofs.Plan.declared_at.Goals as goal

pub returns : goal.returns
returns c = any_over _ _ _ _ _ c.any.ensures.ran refl (λ x b q k. search (rules, tests))
