-- Rows of subsystems, and behind them rows of tasks.
use Rattle.std.proofs.Common.{[], length, sym, ap, ◌∙◌, arith, eq-eqb, ne_eqb}
use Rattle.state.specs.State.{task_at}
use Rattle.image.specs.Image.{image_bytes, subsystem_bytes, task_bytes, image_of}
use Rattle.image.specs.Opening.{image_written}
use Rattle.image.proofs.ImageLaws.{subsystem_eight, task_eight}
use Rattle.image.proofs.Written.{begun_none, begun_whole, rows_none, rows_whole, row_put}
use Rattle.image.proofs.images.write_image.Goals as goal

pub returns-then-image-ne320 : goal.returns-then-image-ne320
unfolding image_written
returns-then-image-ne320 c =
    let e = ne_eqb (length c.args.image.now) image_bytes (λ h. c.if-image-ne320.true (omega arith)) in
    (sym e, rw e)

pub loop-c-init : goal.loop-c-init
loop-c-init c = rows_none [] _ (begun_none _)

pub loop-c-preserved : goal.loop-c-preserved
loop-c-preserved c =
    let row = c.subsystem_row.ensures in
    row_put [] (subsystem_bytes c.args.s.now) c.loop-c.c _ _ c.loop-c.invariant row (ap length row ∙ subsystem_eight c.args.s.now c.loop-c.c) c.put.ensures (omega arith) (omega arith)

pub loop-k-init : goal.loop-k-init
loop-k-init c = rows_none _ _ (rows_whole [] _ c.loop-c.c 8 64 c.loop-c.invariant (omega arith) (omega arith))

pub loop-k-preserved : goal.loop-k-preserved
loop-k-preserved c =
    let s = c.args.s.now in
    let row = c.task_row.ensures in
    row_put _ (λ k. task_bytes (task_at s k)) c.loop-k.k _ _ c.loop-k.invariant row (ap length row ∙ task_eight s c.loop-k.k) c.put-in-loop-k.ensures (omega arith) (omega arith)

pub returns : goal.returns
unfolding image_written image_of
returns c =
    let t = eq-eqb (length c.args.image.now) image_bytes (omega arith) in
    (sym t, rw t (begun_whole (rows_whole _ _ c.loop-k.k 32 320 c.loop-k.invariant (omega arith) (omega arith)) (omega arith)))
