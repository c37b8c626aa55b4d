-- The sections that were written stand at the front of the buffer, one behind the other.
use Rattle.std.proofs.Common.{◌+◌, ◌*◌, ◌++◌, take}
use Rattle.image.specs.Words.{words}
use Rattle.image.specs.Block.{subsystem_words}
use Rattle.image.proofs.Written.{Begun, block_head, block_front}
use Rattle.image.proofs.blocks.write_block.Given as goal

abbrev pub invariant-loop-s : goal.invariant-loop-s
invariant-loop-s l = Begun l.block (4 + 4 * l.s) (block_head l.p ++ subsystem_words (take l.s l.p.periods) (take l.s l.p.budgets))

abbrev pub invariant-loop-i : goal.invariant-loop-i
invariant-loop-i l = Begun l.block (84 + 2 * l.i) (block_front l.p ++ words (take l.i l.p.lengths))
