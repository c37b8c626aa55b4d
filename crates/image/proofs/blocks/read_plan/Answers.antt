-- Each table is read from its place.
use Rattle.std.proofs.Common.{◌+◌, ◌*◌, rules}
use Rattle.image.specs.Words.{byte_at, word_at}
use Rattle.image.specs.Block.{plan_of}
use Rattle.image.proofs.Tables.{table_is}
use Rattle.image.proofs.blocks.read_plan.Goals as goal

pub returns : goal.returns
unfolding plan_of byte_at
returns c =
    let b = c.args.b.now in
    rw (
      table_is (λ s. word_at b (4 + 4 * s)) 0 8 c.from_fn.ensures.items (λ x y q k. search rules),
      table_is (λ s. word_at b (4 + 4 * s + 2)) 0 8 c.from_fn-2.ensures.items (λ x y q k. search rules),
      table_is (λ t. byte_at b (36 + t)) 0 32 c.from_fn-3.ensures.items (λ x y q k. search rules),
      table_is (λ r. byte_at b (68 + r)) 0 16 c.from_fn-4.ensures.items (λ x y q k. search rules),
      table_is (λ i. word_at b (84 + 2 * i)) 0 512 c.from_fn-5.ensures.items (λ x y q k. search rules),
    )
