-- Lengths, the block, the bytes that are always 0, and the state are tested in this order. Each end is one of the definition's.
use Rattle.std.proofs.Common.{◌≡◌, Err, ◌∙◌, arith, rules}
use Rattle.image.proofs.OpenedLaws.{is_read, short_block, short_image, no_block, padded, not_legal, both_opened}
use Rattle.image.proofs.opens.open.Goals as goal

pub returns-then-block-ne1108 : goal.returns-then-block-ne1108
returns-then-block-ne1108 c = short_block _ _ (λ h. c.if-block-ne1108.true (omega arith))

pub returns-then-image-ne320 : goal.returns-then-image-ne320
returns-then-image-ne320 c = short_image _ _ (λ h. c.if-image-ne320.true (omega arith))

pub returns-in_err-plan : goal.returns-in_err-plan
returns-in_err-plan c =
    let same : c.from_residual.result ≡ Err c.in_err-plan.field-0.0 = search rules in
    same ∙ no_block _ _ c.if-image-ne320.false c.read_block.ensures c.in_err-plan.was

pub returns-then-not-pads_clear : goal.returns-then-not-pads_clear
returns-then-not-pads_clear c =
    padded _ _ c.if-image-ne320.false (is_read c.read_block.ensures c.in_ok-plan.was) (λ k. omega (arith, c.type_inv.image k)) c.pads_clear.ensures c.if-not-pads_clear.true

pub returns-then-not-legal : goal.returns-then-not-legal
returns-then-not-legal c =
    not_legal _ _ c.if-image-ne320.false (is_read c.read_block.ensures c.in_ok-plan.was) (λ k. omega (arith, c.type_inv.image k)) c.pads_clear.ensures c.if-not-pads_clear.false
    c.with_ceilings-plan.ensures c.read_state-state.ensures c.legal.ensures c.if-not-legal.true

pub returns : goal.returns
returns c =
    both_opened _ _ c.if-image-ne320.false (is_read c.read_block.ensures c.in_ok-plan.was) (λ k. omega (arith, c.type_inv.image k)) c.pads_clear.ensures c.if-not-pads_clear.false
    c.with_ceilings-plan.ensures c.read_state-state.ensures c.legal.ensures c.if-not-legal.false
