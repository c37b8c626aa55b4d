-- `run::report::report_row` meets its contract: the numbers asked for are those of the row's line.
use Rattle.std.proofs.Common.{◌∙◌, to_z-of_z, w64}
use Rattle.run.proofs.RowsLaws.{row_text_lem}
use Rattle.run.proofs.report.report_row.Goals as goal

pub returns : goal.returns
returns c =
    let a = c.args in
    let m = to_z-of_z {w = w64} {z = c.margin.result} (record { sfits = c.margin.type_inv }) ∙ c.margin.ensures in
    rw (row_text_lem a.p.now a.s _ _ _ _ c.period.ensures c.budget.ensures c.blocking.ensures c.demand.ensures m) at c.report_line.ensures
