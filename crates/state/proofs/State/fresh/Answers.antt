-- Budgets left are the budgets and ticks to refill are the periods, entry by entry.
use Rattle.std.proofs.Common.{rules, ◌≡◌, length}
use Rattle.below.proofs.Listed.{listed_is, listed_get_or}
use Rattle.plan.specs.Plan.{period, budget}
use Rattle.state.specs.Fresh.{fresh}
use Rattle.state.proofs.State.fresh.Goals as goal

pub returns : goal.returns
unfolding fresh period budget
returns c =
    let e : length c.args.p.now.periods ≡ 8 = search rules in
    rw (
      listed_is 8 (λ k. record { 0 = budget c.args.p.now k }) (record { 0 = 0 }) c.map-left.result c.map-left.ensures.items.long
          (λ k h. let at = c.map-left.ensures.items.at k 0 (record { 0 = 0 }) h in search rules),
      listed_get_or 0 c.args.p.now.periods 8 e,
    )
