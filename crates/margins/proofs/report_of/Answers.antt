-- Any report has room in 1,024 bytes.
use Rattle.std.proofs.Common.{rules}
use Rattle.margins.proofs.Counting.{report_counts}
use Rattle.margins.proofs.report_of.Goals as goal

pub returns : goal.returns
returns c =
    let m = report_counts c.args.text.now c.args.out.now c.requires (search rules) c.report.ensures.0 c.fill_of.ensures c.report.ensures.1 in
    record { prefix_len = m.0; out_after = m.1 }
