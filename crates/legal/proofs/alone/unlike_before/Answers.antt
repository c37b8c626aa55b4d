use Rattle.std.proofs.Common.{rules, refl}
use Rattle.below.proofs.Chains.{all_over}
use borrow.Author.Tests.{tests}
use Rattle.legal.specs.Parts.{unlike_at}
use Rattle.legal.proofs.alone.unlike_before.Goals as goal

pub returns : goal.returns
unfolding unlike_at
returns c = all_over _ _ _ _ _ c.all.ensures.ran refl (λ x b q k. search (rules, tests))
