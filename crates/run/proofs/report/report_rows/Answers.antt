use Rattle.std.proofs.Common.{sym, ◌∙◌, arith}
use Rattle.run.proofs.AsFarLaws.{leads_on, leads_out, leads_end, ok_or_some, ok_or_none, passed_on}
use Rattle.run.proofs.RowsLaws.{leads_rows, leads_row, leads_none}
use Rattle.run.proofs.report.report_rows.Goals as goal

pub loop-s-init : goal.loop-s-init
loop-s-init c = leads_rows c.args.p.now _ _ _ (omega arith)

pub returns-in_err-at : goal.returns-in_err-at
returns-in_err-at c =
    let q = ok_or_none _ _ (sym c.ok_or.ensures.value ∙ c.in_err-at.was) in
    rw (passed_on c.from_residual.ensures.1 q.1)
    (leads_out (leads_row c.args.p.now c.loop-s.s c.loop-s-test.true c.loop-s.invariant) (sym q.0 ∙ c.report_row.ensures.0) c.report_row.ensures.1)

pub loop-s-preserved : goal.loop-s-preserved
loop-s-preserved c =
    let q = ok_or_some _ _ (sym c.ok_or.ensures.value ∙ c.in_ok-at.was) in
    leads_on (leads_row c.args.p.now c.loop-s.s c.loop-s-test.true c.loop-s.invariant) (sym q ∙ c.report_row.ensures.0) c.report_row.ensures.1

pub returns : goal.returns
returns c = leads_end (leads_none c.args.p.now c.loop-s.s (omega (arith, c.loop-s-test.false)) c.loop-s.invariant)
