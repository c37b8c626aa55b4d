-- `line::events::event_of` meets its contract: a long line is no event, and the first line feed ends the others.
use Rattle.std.proofs.Common.{sym, ◌∙◌, arith}
use Rattle.text.specs.Lines.{line_feed}
use Rattle.line.proofs.Parts.{found_le, found_length}
use Rattle.line.proofs.Whole.{event_line, no_line}
use Rattle.line.proofs.Long.{long_line}
use Rattle.line.proofs.events.event_of.Goals as goal

pub returns-then-n-gt20 : goal.returns-then-n-gt20
returns-then-n-gt20 c = sym (long_line _ (omega arith))

pub overflow_add-end : goal.overflow_add-end
overflow_add-end c = omega (arith, found_le line_feed _ _ c.find-end.ensures)

pub returns-then-end-n : goal.returns-then-end-n
returns-then-end-n c = sym (no_line _ _ c.find-end.ensures (λ e. omega arith))

pub slice_bounds-event_in-end : goal.slice_bounds-event_in-end
slice_bounds-event_in-end c = found_length line_feed _ _ c.find-end.ensures

pub returns : goal.returns
returns c = c.event_in.ensures ∙ sym (event_line _ _ c.find-end.ensures (omega (arith, found_le line_feed _ _ c.find-end.ensures)))
