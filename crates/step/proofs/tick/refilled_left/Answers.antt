-- The values made are those of the definition.
use Rattle.std.proofs.Common.{rules}
use borrow.Author.Tests.{tests}
use Rattle.step.specs.Lent.{left_next}
use Rattle.below.proofs.Chains.{listed_over}
use Rattle.step.proofs.tick.refilled_left.Goals as goal

pub returns : goal.returns
returns c = listed_over (left_next c.args.p.now c.args.s.now) (record { 0 = 0 }) _ _ (λ x y q k. search (rules, tests)) _ c.from_fn.ensures.items
