-- `line::events::two_rows` meets its contract: the first tab parts the rows.
use Rattle.std.proofs.Common.{sym, ◌∙◌, arith}
use Rattle.text.specs.Lines.{tab}
use Rattle.line.proofs.Parts.{to_end_next, found_le, found_length, found_there, found_none}
use Rattle.line.proofs.Behind.{two_whole, two_not, two_is}
use Rattle.line.proofs.events.two_rows.Goals as goal

pub returns-then-t-rest : goal.returns-then-t-rest
returns-then-t-rest c = sym (two_whole _ (found_none tab _ _ c.find-t.ensures c.if-t-rest.true))

pub slice_bounds-number_of-end : goal.slice_bounds-number_of-end
slice_bounds-number_of-end c = found_length tab _ _ c.find-t.ensures

pub returns-in_err-task : goal.returns-in_err-task
returns-in_err-task c =
    c.from_residual.ensures
    ∙ sym (two_not _ (found_there tab _ _ c.find-t.ensures c.if-t-rest.false) (sym c.number_of.ensures ∙ c.in_err-task.was))

pub overflow_add-t : goal.overflow_add-t
overflow_add-t c = omega (arith, found_le tab _ _ c.find-t.ensures)

pub slice_bounds-number_of-count : goal.slice_bounds-number_of-count
slice_bounds-number_of-count c = omega (arith, found_le tab _ _ c.find-t.ensures, c.if-t-rest.false)

pub slice_bounds-number_of-start : goal.slice_bounds-number_of-start
slice_bounds-number_of-start c = omega (arith, found_le tab _ _ c.find-t.ensures, c.if-t-rest.false)

pub returns-in_err-resource : goal.returns-in_err-resource
returns-in_err-resource c =
    let e = sym c.number_of.ensures ∙ c.in_ok-task.was in
    let o = rw (to_end_next c.args.rest.now c.find-t.result) at (sym c.number_of-2.ensures ∙ c.in_err-resource.was) in
    c.from_residual-in_err-resource.ensures
    ∙ sym (two_is _ (found_there tab _ _ c.find-t.ensures c.if-t-rest.false) _ e ∙ rw o)

pub returns : goal.returns
returns c =
    let e = sym c.number_of.ensures ∙ c.in_ok-task.was in
    let o = rw (to_end_next c.args.rest.now c.find-t.result) at (sym c.number_of-2.ensures ∙ c.in_ok-resource.was) in
    sym (two_is _ (found_there tab _ _ c.find-t.ensures c.if-t-rest.false) _ e ∙ rw o)
