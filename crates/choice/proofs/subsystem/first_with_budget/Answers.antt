-- The search over the rows finds the first.
use Rattle.std.proofs.Common.{rules, refl, ◌∙◌}
use borrow.Author.Tests.{tests}
use Rattle.below.proofs.Chains.{first_over}
use Rattle.state.specs.State.{has_budget}
use Rattle.choice.proofs.subsystem.first_with_budget.Goals as goal

pub returns : goal.returns
unfolding has_budget
returns c = c.unwrap_or.ensures ∙ first_over _ (has_budget c.args.s.now) _ _ _ c.find.ensures.ran refl (λ x b q k. search (rules, tests))
