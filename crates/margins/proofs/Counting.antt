-- The fill behind a report counts bytes at the start of the buffer, and these bytes are the report.
use Rattle.std.proofs.Common.{◌≡◌, ap, ◌∙◌, List, ℕ, ◌≤◌, length, take, arith}
use Rattle.std.specs.Prelude.{Result}
use Rattle.std.specs.Counts.{IsPrefixLen}
use Rattle.files.proofs.Counting.{counts}
use Rattle.line.specs.Report.{report}
use Rattle.run.specs.declared.Full.{Full}
use Rattle.run.specs.AsFar.{as_far, as_far_out, fill_of}
use Rattle.run.specs.Reporting.{reported_lines}
use Rattle.run.proofs.ReportRoom.{report_printed, report_fill}

pub report_counts : (text out : List ℕ) {r : Result ℕ Full} {n : ℕ} {new : List ℕ} → 1024 ≤ length out → length new ≡ length out
    → r ≡ as_far (reported_lines text) out 0 → n ≡ fill_of r → new ≡ as_far_out (reported_lines text) out 0
    → IsPrefixLen n new × (take n new ≡ report text)
report_counts text out {r} {n} {new} h l e g f =
    let k : n ≡ fill_of (as_far (reported_lines text) out 0) = g ∙ ap fill_of e in
    (counts n new (omega (arith, report_fill text out h)), rw (k, f) (report_printed text out h))
