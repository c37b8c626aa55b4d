-- Each end of the call is one of the definition's.
use Rattle.std.proofs.Common.{◌≡◌, length, ap, ◌∙◌, arith}
use Rattle.image.specs.Image.{image_bytes, image_of}
use Rattle.host.specs.Fresh.{fresh_left}
use Rattle.host.proofs.OpenLaws.{image_filled}
use Rattle.host.proofs.FreshLaws.{image_short, block_refused, block_taken}
use Rattle.host.proofs.skrzypolot_fresh.Goals as goal

pub returns-then-image-ne320 : goal.returns-then-image-ne320
returns-then-image-ne320 c = image_short _ _ (λ h. c.if-image-ne320.true (omega arith))

pub returns-in-Err : goal.returns-in-Err
returns-in-Err c = ap (λ n. fresh_left n c.args.image.now) c.number.ensures ∙ block_refused _ _ c.if-image-ne320.false c.read_block.ensures c.in-Err.is

pub returns : goal.returns
returns c =
    let full : length c.args.image.now ≡ image_bytes = omega arith in
    ap (fresh_left 0) (c.write_image.ensures.1 ∙ image_filled _ _ full ∙ ap image_of c.fresh.ensures) ∙ block_taken _ _ full c.read_block.ensures c.in-Ok.is
