-- "Admission": what asking for a margin answers.
use Rattle.std.specs.Prelude.{true, false, List, ℕ, ℤ, ltb, Result, Ok, Err}
use Rattle.plan.specs.declared.Plan.{Plan}
use Rattle.plan.specs.Admission.{margin}
use Rattle.reader.specs.declared.refusals.Refusal.{Refusal}
use Rattle.reader.specs.declared.refusals.Unasked.{Unasked}
use Rattle.reader.specs.declared.refusals.Unasked.TheVariants.{NoRow, Refused}
use Rattle.reader.specs.Reading.{listed_reading}

-- the margin of a row that the plan has
unfoldable pub asked_of : Plan → ℕ → Result ℤ Unasked
asked_of p row = elim (ltb row p.subsystems) [ true ↦ Ok (margin p row) | false ↦ Err NoRow ]

-- of a plan that meets no refusal but 30; else its refusal
unfoldable pub asked_by : Result Plan Refusal → ℕ → Result ℤ Unasked
asked_by r row = elim r [ Ok p ↦ asked_of p row | Err e ↦ Err (Refused e) ]

-- what asking a plan text for the margin of a row answers
unfoldable pub asked : List ℕ → ℕ → Result ℤ Unasked
asked text row = asked_by (listed_reading text) row
