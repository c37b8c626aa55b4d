-- The line of a refusal ends within the buffer.
use Rattle.std.proofs.Common.{rules, sym, ◌∙◌}
use Rattle.std.proofs.Math.Seq.{length-take-le}
use Rattle.skrzypolot.proofs.Bounds.{line_fits}
use Rattle.skrzypolot.proofs.events.print_refused.Goals as goal

pub slice_bounds-out-end : goal.slice_bounds-out-end
slice_bounds-out-end c = line_fits _ _ _ _ (sym c.in-Some.is ∙ c.print_refusal.ensures.0) (search rules)

pub slice_bounds-write_out-end : goal.slice_bounds-write_out-end
slice_bounds-write_out-end c =
    sym (length-take-le _ _ (line_fits _ _ _ _ (sym c.in-Some.is ∙ c.print_refusal.ensures.0) (search rules)))
