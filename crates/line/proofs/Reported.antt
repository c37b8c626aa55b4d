-- A line of the admission report is the text of the row's numbers.
use Rattle.std.proofs.Common.{◌≡◌, ℕ, refl}
use Rattle.plan.specs.declared.Plan.{Plan}
use Rattle.plan.specs.Plan.{period, budget}
use Rattle.plan.specs.Admission.{blocking, demand, margin}
use Rattle.line.specs.Report.{report_line}
use Rattle.line.specs.Reported.{report_text}

pub reported : (p : Plan) (s : ℕ) → report_line p s ≡ report_text s (period p s) (budget p s) (blocking p s) (demand p s) (margin p s)
unfolding report_line report_text
reported p s = refl
