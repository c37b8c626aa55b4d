-- `line::events::event_in` meets its contract: the first tab ends the name.
use Rattle.std.proofs.Common.{sym, ◌∙◌, arith}
use Rattle.text.specs.Lines.{tab}
use Rattle.line.proofs.Parts.{to_end_next, found_le, found_length, found_there, found_none}
use Rattle.line.proofs.Names.{alone_tick, alone_other}
use Rattle.line.proofs.Whole.{read_alone, read_rows, read_other}
use Rattle.line.proofs.events.event_in.Goals as goal

pub slice_bounds-kind_of-end : goal.slice_bounds-kind_of-end
slice_bounds-kind_of-end c = found_length tab _ _ c.find-t.ensures

pub returns-in_err-kind : goal.returns-in_err-kind
returns-in_err-kind c = c.from_residual.ensures ∙ sym (read_other _ _ c.find-t.ensures (sym c.kind_of.ensures ∙ c.in_err-kind.was))

pub returns-then-t-body : goal.returns-then-t-body
returns-then-t-body c =
    let p = found_there tab _ _ c.find-t.ensures (λ e. omega arith) in
    c.rows_of.ensures
    ∙ rw (to_end_next c.args.body.now c.find-t.result) (sym (read_rows (sym c.kind_of.ensures ∙ c.in_ok-kind.was) p))

pub returns-in_default : goal.returns-in_default
returns-in_default c =
    let w = found_none tab _ _ c.find-t.ensures (omega (arith, found_le tab _ _ c.find-t.ensures)) in
    sym (read_alone (sym c.kind_of.ensures ∙ c.in_ok-kind.was) w c.if-t-body.false ∙ alone_other _ c.in_default.not-Tick)

pub returns-in-Tick : goal.returns-in-Tick
returns-in-Tick c =
    let w = found_none tab _ _ c.find-t.ensures (omega (arith, found_le tab _ _ c.find-t.ensures)) in
    sym (read_alone (sym c.kind_of.ensures ∙ c.in_ok-kind.was) w c.if-t-body.false ∙ alone_tick _ c.in-Tick.is)
