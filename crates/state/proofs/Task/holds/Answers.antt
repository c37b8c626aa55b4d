use Rattle.std.proofs.Common.{rules, refl}
use borrow.Author.Tests.{tests}
use Rattle.below.proofs.Chains.{any_over}
use Rattle.state.specs.State.{holds}
use Rattle.state.proofs.Task.holds.Goals as goal

pub returns : goal.returns
unfolding holds
returns c = any_over _ _ _ _ _ c.any.ensures.ran refl (λ x b q k. search (rules, tests))
