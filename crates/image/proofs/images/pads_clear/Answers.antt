use Rattle.std.proofs.Common.{◌≡◌, rules, refl, sym, ◌∙◌, tests}
use Rattle.below.specs.Below.{all}
use Rattle.below.proofs.Chains.{all_over}
use Rattle.image.specs.Words.{byte_at}
use Rattle.image.specs.Image.{task_byte_at}
use Rattle.image.specs.Pads.{subsystem_pad, task_pad, pads_zero}
use Rattle.image.proofs.images.pads_clear.Goals as goal

pub returns-then-all : goal.returns-then-all
unfolding pads_zero subsystem_pad task_pad byte_at task_byte_at
returns-then-all c =
    let b = c.args.b.now in
    let first : c.all.result ≡ all 8 (subsystem_pad b) = all_over 8 (subsystem_pad b) _ _ _ c.all.ensures.ran refl (λ x r q k. search (rules, tests)) in
    rw (sym first ∙ c.if-all.true) (all_over 32 (task_pad b) _ _ _ c.all-then-all.ensures.ran refl (λ x r q k. search (rules, tests)))

pub returns-else-all : goal.returns-else-all
unfolding pads_zero subsystem_pad byte_at
returns-else-all c =
    let b = c.args.b.now in
    let first : c.all.result ≡ all 8 (subsystem_pad b) = all_over 8 (subsystem_pad b) _ _ _ c.all.ensures.ran refl (λ x r q k. search (rules, tests)) in
    rw (sym first ∙ c.if-all.false) c.if-all.false
