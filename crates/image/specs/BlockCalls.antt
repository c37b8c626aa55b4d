-- "Calls from C": what reading and writing a plan block answer and leave.
use Rattle.std.specs.Prelude.{true, false, cond, List, ℕ, Result, Ok, Err, eqb, length}
use Rattle.plan.specs.declared.Plan.{Plan}
use Rattle.image.specs.declared.Unopened.{Unopened}
use Rattle.image.specs.declared.Unopened.TheVariants.{Length, Block}
use Rattle.image.specs.Block.{block_bytes, is_block, block_of, plan_of}

-- the plan of the block of an accepted plan; any other buffer is refused
unfoldable pub block_read : List ℕ → Result Plan Unopened
block_read b = elim (eqb (length b) block_bytes) [ false ↦ Err Length | true ↦ elim (is_block b) [ false ↦ Err Block | true ↦ Ok (plan_of b) ] ]

-- a buffer of the block's length is filled with the plan's block, any other is kept
unfoldable pub block_written : Plan → List ℕ → List ℕ
block_written p b = cond (eqb (length b) block_bytes) (block_of p) b
