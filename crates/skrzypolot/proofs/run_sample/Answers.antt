-- The fill behind the printed lines lies within the buffer.
use Rattle.std.proofs.Common.{rules, sym}
use Rattle.std.proofs.Math.Seq.{length-take-le}
use Rattle.skrzypolot.proofs.Bounds.{far_fits}
use Rattle.skrzypolot.proofs.run_sample.Goals as goal

pub slice_bounds-out-end : goal.slice_bounds-out-end
slice_bounds-out-end c = far_fits _ _ _ _ _ c.run-r.ensures.0 c.fill_of.ensures (search rules)

pub slice_bounds-write_out-end : goal.slice_bounds-write_out-end
slice_bounds-write_out-end c = sym (length-take-le _ _ (far_fits _ _ _ _ _ c.run-r.ensures.0 c.fill_of.ensures (search rules)))
