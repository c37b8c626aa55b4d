-- The tests of a line behind 21 and 22, in the order of the table.
use Rattle.std.specs.Prelude.{[], ◌∷◌, ℕ, Result}
use Rattle.plan.specs.declared.Plan.{Plan}
use Rattle.reader.specs.declared.refusals.Refusal.{Refusal}
use Rattle.reader.specs.declared.refusals.Refusal.TheVariants.{TooManyRows, NoSuchRow, OutOfRange, Twice, TwoSubsystems, AboveBudget}
use Rattle.reader.specs.declared.Line.{Line}
use Rattle.reader.specs.Conditions.{too_many_rows, no_such_row, out_of_range, twice, two_subsystems, above_budget}
use Rattle.reader.specs.Reading.{first_of}
use Rattle.std.specs.Prelude.{Option}

unfoldable pub judged_rows : Plan → ℕ → Option Line → Result Unit Refusal
judged_rows p n l =
    first_of
    ((too_many_rows p l, TooManyRows n)
    ∷ (no_such_row p l, NoSuchRow n)
    ∷ (out_of_range p l, OutOfRange n)
    ∷ (twice p l, Twice n)
    ∷ (two_subsystems p l, TwoSubsystems n)
    ∷ (above_budget p l, AboveBudget n)
    ∷ [])
