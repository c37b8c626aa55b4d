use Rattle.std.proofs.Common.{◌≡◌, Err, sym, ap, ap₂, subst, ◌∙◌, arith, rules}
use Rattle.text.specs.Lines.{lines}
use Rattle.reader.specs.Reading.{read_from}
use Rattle.reader.specs.Room.{Counts}
use Rattle.reader.proofs.Room.{room, counts_empty, counts_kept}
use Rattle.reader.proofs.Onward.{read_unended, read_malformed, read_refused, read_onward, read_ended}
use Rattle.reader.proofs.lines.read_lines.Goals as goal

pub loop-at-init : goal.loop-at-init
loop-at-init c = (ap (read_from (lines c.args.text.now) 1 0) (sym c.empty_plan-plan.ensures), subst Counts (sym c.empty_plan-plan.ensures) counts_empty, search rules)

pub returns-then-text-end : goal.returns-then-text-end
returns-then-text-end c = sym (c.loop-at.invariant.0 ∙ read_unended _ _ _ c.find-end.ensures _ _ _ c.loop-at-test.true c.if-text-end.true)

pub returns-in_default : goal.returns-in_default
returns-in_default c =
    sym (c.loop-at.invariant.0 ∙ read_malformed _ _ _ c.find-end.ensures _ _ _ c.if-text-end.false c.line_of.ensures c.in_default.is)

pub returns-in_err-judge : goal.returns-in_err-judge
returns-in_err-judge c =
    let same : c.from_residual.result ≡ Err c.in_err-judge.field-0.0 = search rules in
    same
    ∙ sym
    (c.loop-at.invariant.0
    ∙ read_refused _ _ _ c.find-end.ensures _ _ _ c.if-text-end.false (sym c.in-Some.is ∙ c.line_of.ensures) (sym c.in_err-judge.ensures))

pub with_line-requires : goal.with_line-requires
with_line-requires c = room _ _ _ _ c.loop-at.invariant.1 (sym c.in_ok-judge.ensures)

pub loop-at-preserved : goal.loop-at-preserved
loop-at-preserved c =
    let a = sym c.in_ok-judge.ensures in (
      c.loop-at.invariant.0
          ∙ read_onward _ _ _ c.find-end.ensures _ _ _ c.if-text-end.false (sym c.in-Some.is ∙ c.line_of.ensures) a
          ∙ ap₂ (read_from _ _) (sym c.kind_of-last.ensures) (sym c.with_line.ensures),
      subst Counts (sym c.with_line.ensures) (counts_kept _ _ c.loop-at.invariant.1 (room _ _ _ _ c.loop-at.invariant.1 a)),
      omega (arith, c.loop-at.invariant.2, c.find-end.ensures),
    )

pub returns : goal.returns
returns c = sym (c.loop-at.invariant.0 ∙ read_ended _ _ _ _ _ c.loop-at-test.false)
