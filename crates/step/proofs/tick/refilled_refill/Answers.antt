-- The values made are those of the definition.
use Rattle.std.proofs.Common.{rules}
use borrow.Author.Tests.{tests}
use Rattle.step.specs.Lent.{refill_next}
use Rattle.below.proofs.Chains.{listed_over}
use Rattle.step.proofs.tick.refilled_refill.Goals as goal

pub returns : goal.returns
returns c = listed_over (refill_next c.args.p.now c.args.s.now) 0 _ _ (λ x y q k. search (rules, tests)) _ c.from_fn.ensures.items
