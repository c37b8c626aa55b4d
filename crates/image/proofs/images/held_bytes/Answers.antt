use Rattle.std.proofs.Common.{◌+◌, ◌/◌, ◌%◌, rules}
use Rattle.image.specs.Words.{byte_at}
use Rattle.image.specs.Image.{task_byte_at}
use Rattle.image.proofs.Tables.{table_is}
use Rattle.image.proofs.images.held_bytes.Goals as goal

pub returns : goal.returns
unfolding byte_at task_byte_at
returns c = table_is (λ i. byte_at c.args.b.now (task_byte_at (i / 4) (3 + i % 4))) 0 128 c.from_fn.ensures.items (λ x y q k. search rules)
