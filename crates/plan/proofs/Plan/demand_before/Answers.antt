-- At most 255 rows, each of which adds fewer than 2 ^ 33.
use Rattle.std.proofs.Common.{rules, arith}
use Rattle.below.proofs.Chains.{sum_over, sum_fits, sum_below}
use Rattle.plan.proofs.Plan.demand_before.Goals as goal

pub sum-requires-clause-fits : goal.sum-requires-clause-fits
sum-requires-clause-fits c = sum_fits _ 255 _ _ c.map.ensures.source c.map.ensures.closure (omega arith) (omega arith) (λ x r q k. search rules)

pub returns-clause-value : goal.returns-clause-value
returns-clause-value c = sum_over _ _ _ _ c.sum.ensures.ran c.map.ensures.source c.map.ensures.closure (λ x r q k. search rules)

pub returns-clause-upper_bound : goal.returns-clause-upper_bound
returns-clause-upper_bound c = sum_below _ 255 _ _ c.map.ensures.source c.map.ensures.closure (omega arith) (omega arith) (λ x r q k. search rules) _ (c.sum.ensures.runs tt)
