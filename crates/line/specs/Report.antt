-- The admission report: a line a row, or the refusal of the plan.
use Rattle.std.specs.Prelude.{List, [], ◌∷◌, ◌++◌, ℕ, zero, suc, ℤ, pos, negsuc, Ok, Err}
use Rattle.text.specs.Bytes.{bytes}
use Rattle.text.specs.Numbers.{decimal}
use Rattle.plan.specs.declared.Plan.{Plan}
use Rattle.plan.specs.Plan.{period, budget}
use Rattle.plan.specs.Admission.{blocking, demand, margin}
use Rattle.reader.specs.Numbers.{number, beside}
use Rattle.reader.specs.Reading.{listed_reading}
use Rattle.line.specs.Printed.{spaced, printed_refusal}

-- a signed number
unfoldable pub signed : ℤ → List ℕ
signed (pos n) = decimal n
signed (negsuc n) = bytes "-" ++ decimal (suc n)

-- row, period, budget, blocking, demand, margin
unfoldable pub report_line : Plan → ℕ → List ℕ
report_line p s =
    spaced
    (decimal s ∷ decimal (period p s) ∷ decimal (budget p s) ∷ decimal (blocking p s) ∷ decimal (demand p s) ∷ signed (margin p s) ∷ [])

-- the lines of the rows below n
unfoldable pub report_lines : Plan → ℕ → List ℕ
report_lines p zero = []
report_lines p (suc n) = report_lines p n ++ report_line p n

-- a plan that meets no refusal but 30 has margins to report
unfoldable pub report : List ℕ → List ℕ
report text = elim (listed_reading text) [ Ok p ↦ report_lines p p.subsystems | Err e ↦ printed_refusal (number e) (beside e) ]
