-- Every section is put behind the one before it.
use Rattle.std.proofs.Common.{◌≡◌, length, refl, sym, ◌∙◌, arith, rules, eq-eqb, ne_eqb}
use Rattle.image.specs.Block.{block_bytes}
use Rattle.image.specs.BlockCalls.{block_written}
use Rattle.image.proofs.Written.{block_head, block_front, front_whole, begun_none, begun_put, begun_whole, words_none, words_whole, word_put, subsystems_none, subsystems_whole, subsystem_put}
use Rattle.image.proofs.blocks.write_block.Goals as goal

pub returns-then-block-ne1108 : goal.returns-then-block-ne1108
unfolding block_written
returns-then-block-ne1108 c =
    let e = ne_eqb (length c.args.block.now) block_bytes (λ h. c.if-block-ne1108.true (omega arith)) in
    (sym e, rw e)

pub loop-s-init : goal.loop-s-init
unfolding block_head
loop-s-init c =
    let p = c.args.p.now in
    subsystems_none _ p.periods p.budgets (begun_put {d = c.args.block.now} (begun_none c.args.block.now) (block_head p) 4 c.put.ensures (omega arith) refl)

pub loop-s-preserved : goal.loop-s-preserved
loop-s-preserved c =
    let p = c.args.p.now in
    let periods : length p.periods ≡ 8 = search rules in
    let budgets : length p.budgets ≡ 8 = search rules in
    subsystem_put _ p.periods p.budgets c.loop-s.s _ _ _ _ c.loop-s.invariant (omega arith) (omega arith) c.bytes_of.ensures c.bytes_of-in-loop-s.ensures
    c.put-in-loop-s.ensures c.put-in-loop-s.auto.buffer c.put-in-loop-s-2.ensures (omega arith) refl (omega arith)

pub loop-i-init : goal.loop-i-init
unfolding block_front
loop-i-init c =
    let p = c.args.p.now in
    let periods : length p.periods ≡ 8 = search rules in
    let budgets : length p.budgets ≡ 8 = search rules in
    let owners : length p.owners ≡ 32 = search rules in
    let kinds : length p.kinds ≡ 16 = search rules in
    let rows = subsystems_whole (block_head p) p.periods p.budgets c.loop-s.s 36 c.loop-s.invariant (omega arith) (omega arith) (omega arith) in
    let owned = begun_put rows p.owners 68 c.put-2.ensures (omega arith) (omega arith) in
    words_none _ p.lengths (begun_put owned p.kinds 84 c.put-3.ensures (omega arith) (omega arith))

pub loop-i-preserved : goal.loop-i-preserved
loop-i-preserved c =
    let p = c.args.p.now in
    let lengths : length p.lengths ≡ 512 = search rules in
    word_put _ p.lengths c.loop-i.i _ _ c.loop-i.invariant (omega arith) c.bytes_of-in-loop-i.ensures c.put-in-loop-i.ensures (omega arith) (omega arith)

pub returns : goal.returns
unfolding block_written
returns c =
    let p = c.args.p.now in
    let lengths : length p.lengths ≡ 512 = search rules in
    let t = eq-eqb (length c.args.block.now) block_bytes (omega arith) in
    let all = words_whole (block_front p) p.lengths c.loop-i.i 1108 c.loop-i.invariant (omega arith) (omega arith) in
    (sym t, rw t (begun_whole all (omega arith) ∙ front_whole p))
