use Rattle.std.proofs.Common.{rules, refl, tests}
use Rattle.below.proofs.Chains.{all_over}
use Rattle.plan.proofs.Plan.tasks_fit.Goals as goal

pub returns : goal.returns
returns c = all_over _ _ _ _ _ c.all.ensures.ran refl (λ x b q k. search (rules, tests))
