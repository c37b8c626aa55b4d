-- The admission report of a plan text, line by line.
use Rattle.std.specs.Prelude.{List, [], ◌∷◌, ℕ, zero, suc, ◌+◌, Result, Ok, Err}
use Rattle.plan.specs.declared.Plan.{Plan}
use Rattle.reader.specs.declared.refusals.Refusal.{Refusal}
use Rattle.reader.specs.Numbers.{number, beside}
use Rattle.reader.specs.Reading.{listed_reading}
use Rattle.line.specs.Printed.{printed_refusal}
use Rattle.line.specs.Report.{report_line}

-- the lines of n rows from s on
unfoldable pub report_from : Plan → ℕ → ℕ → List (List ℕ)
report_from p zero s = []
report_from p (suc n) s = report_line p s ∷ report_from p n (s + 1)

-- a line a row; a plan that has no margins has its refusal
unfoldable pub report_of : Result Plan Refusal → List (List ℕ)
report_of r = elim r [ Ok p ↦ report_from p p.subsystems 0 | Err e ↦ printed_refusal (number e) (beside e) ∷ [] ]

-- of a plan text
unfoldable pub reported_lines : List ℕ → List (List ℕ)
reported_lines text = report_of (listed_reading text)
