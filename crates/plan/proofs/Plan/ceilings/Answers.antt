use Rattle.std.proofs.Common.{rules}
use Rattle.below.proofs.Chains.{listed_over}
use Rattle.plan.proofs.Plan.ceilings.Goals as goal

pub returns : goal.returns
returns c = listed_over _ 0 _ _ (λ x y q k. search rules) _ c.from_fn.ensures.items
