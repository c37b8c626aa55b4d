-- "The run program": the printed lines of a whole run, each for itself. A run into a buffer writes them one behind the other, as far as it goes.
use Rattle.std.specs.Prelude.{List, [], ◌∷◌, ℕ, ◌+◌, take, Ok, Err}
use Rattle.text.specs.Lines.{lines}
use Rattle.reader.specs.Numbers.{number, beside}
use Rattle.reader.specs.Reading.{reading}
use Rattle.state.specs.Fresh.{fresh}
use Rattle.step.specs.declared.Outcome.{Outcome}
use Rattle.line.specs.Printed.{printed, printed_refusal}
use Rattle.line.specs.Run.{most_lines, outcomes}

-- the printed lines of some outcomes, numbered from n
unfoldable pub printed_lines : ℕ → List Outcome → List (List ℕ)
printed_lines n [] = []
printed_lines n (o ∷ os) = printed n o ∷ printed_lines (n + 1) os

-- the printed lines of a run: as one text they are what it prints
unfoldable pub run_lines : List ℕ → List ℕ → List (List ℕ)
run_lines plan events =
    elim (reading plan) [
      | Ok p ↦ printed_lines 1 (outcomes p (fresh p) (take most_lines (lines events)))
      | Err e ↦ printed_refusal (number e) (beside e) ∷ []
    ]
