use Rattle.std.proofs.Common.{◌≡◌, sym, length, arith}
use Rattle.image.specs.Block.{block_bytes}
use Rattle.host.proofs.ReadLaws.{filled, wrong_length, refused, accepted}
use Rattle.host.proofs.skrzypolot_read.Goals as goal

pub returns-then-block-ne1108 : goal.returns-then-block-ne1108
returns-then-block-ne1108 c = wrong_length _ _ _ c.if-block-ne1108.true

pub returns-in-Err : goal.returns-in-Err
returns-in-Err c = rw (c.number.ensures, c.beside.ensures) (refused _ _ _ (omega arith) (sym c.in-Err.ensures))

pub returns : goal.returns
returns c =
    let right : length c.args.block.now ≡ block_bytes = omega arith in
    rw (c.write_block.ensures.1, filled _ _ right) (accepted _ _ _ right (sym c.in-Ok.ensures))
