-- Each column is read from its place.
use Rattle.std.proofs.Common.{◌+◌, ◌*◌, rules}
use Rattle.state.specs.declared.BudgetLeft.{BudgetLeft}
use Rattle.image.specs.Words.{word_at}
use Rattle.image.specs.Image.{state_of}
use Rattle.image.proofs.Tables.{table_is}
use Rattle.image.proofs.images.read_state.Goals as goal

pub returns : goal.returns
unfolding state_of
returns c =
    let b = c.args.b.now in
    rw (
      table_is {B = BudgetLeft} (λ k. record { 0 = word_at b (8 * k) }) (record { 0 = 0 }) 8 c.from_fn.ensures.items (λ x y q k. search rules),
      table_is (λ k. word_at b (8 * k + 2)) 0 8 c.from_fn-2.ensures.items (λ x y q k. search rules),
      table_is (λ k. word_at b (8 * k + 4)) 0 8 c.from_fn-3.ensures.items (λ x y q k. search rules),
      c.task_bytes.ensures,
      c.task_bytes-2.ensures,
      c.task_bytes-3.ensures,
      c.held_bytes.ensures,
    )
