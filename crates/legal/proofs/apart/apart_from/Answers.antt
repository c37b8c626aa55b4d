use Rattle.std.proofs.Common.{rules, refl, sym}
use Rattle.below.proofs.Chains.{all_over}
use Rattle.below.proofs.Search.{all_of}
use Rattle.legal.specs.Legal.{implies}
use Rattle.legal.specs.Parts.{apart, apart_from}
use Rattle.legal.proofs.apart.apart_from.Goals as goal

pub returns-then-not-in_section : goal.returns-then-not-in_section
unfolding apart_from apart implies
returns-then-not-in_section c = sym (all_of _ _ (λ k h. search rules))

pub returns : goal.returns
unfolding apart_from
returns c = all_over _ _ _ _ _ c.all.ensures.ran refl (λ x b q k. search rules)
