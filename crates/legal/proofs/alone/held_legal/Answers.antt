use Rattle.std.proofs.Common.{rules, refl}
use Rattle.below.proofs.Chains.{all_over}
use Rattle.legal.specs.Legal.{held_legal}
use Rattle.legal.specs.Parts.{held_one, unlike_at}
use Rattle.legal.proofs.alone.held_legal.Goals as goal

pub returns : goal.returns
unfolding held_legal held_one unlike_at
returns c = all_over _ _ _ _ _ c.all.ensures.ran refl (λ x b q k. search rules)
