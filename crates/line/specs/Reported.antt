-- A line of the admission report, by its numbers.
use Rattle.std.specs.Prelude.{List, [], ◌∷◌, ℕ, ℤ}
use Rattle.text.specs.Numbers.{decimal}
use Rattle.line.specs.Printed.{spaced}
use Rattle.line.specs.Report.{signed}

-- row, period, budget, blocking, demand, margin
unfoldable pub report_text : ℕ → ℕ → ℕ → ℕ → ℕ → ℤ → List ℕ
report_text row period budget blocking demand margin =
    spaced (decimal row ∷ decimal period ∷ decimal budget ∷ decimal blocking ∷ decimal demand ∷ signed margin ∷ [])
