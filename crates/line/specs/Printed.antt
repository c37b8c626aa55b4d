-- "The run program": the printed line of an event.
use Rattle.std.specs.Prelude.{Bool, true, false, List, [], ◌∷◌, ◌++◌, ℕ, zero, suc, ◌/◌, ◌%◌, ◌^◌, eqb}
use Rattle.text.specs.Bytes.{bytes}
use Rattle.text.specs.Lines.{line_feed}
use Rattle.text.specs.Numbers.{decimal}
use Rattle.plan.specs.Limits.{most_tasks, no_row}
use Rattle.step.specs.declared.Outcome.{Outcome}

-- fields of a printed line are parted by one space
abbrev pub space : ℕ
space = 32

-- a row, or a dash for none
unfoldable pub row_text : ℕ → List ℕ
row_text k = elim (eqb k no_row) [ true ↦ bytes "-" | false ↦ decimal k ]

-- task k is in the set
unfoldable pub is_in : ℕ → ℕ → Bool
is_in set k = eqb (set / 2 ^ k % 2) 1

-- a row and a comma between it and what follows it
unfoldable pub comma_before : ℕ → List ℕ → List ℕ
comma_before k [] = decimal k
comma_before k (b ∷ bs) = decimal k ++ (bytes "," ++ (b ∷ bs))

-- the rows below n that are in the set, rising and joined by commas, in front of some bytes
unfoldable pub rows_onto : ℕ → ℕ → List ℕ → List ℕ
rows_onto zero set bs = bs
rows_onto (suc n) set bs = elim (is_in set n) [ true ↦ rows_onto n set (comma_before n bs) | false ↦ rows_onto n set bs ]

-- tasks ended, or a dash for none
unfoldable pub ended_text : ℕ → List ℕ
ended_text set = elim (eqb set 0) [ true ↦ bytes "-" | false ↦ rows_onto most_tasks set [] ]

-- fields parted by one space, ended by a line feed
unfoldable pub spaced : List (List ℕ) → List ℕ
spaced [] = line_feed ∷ []
spaced (f ∷ []) = f ++ (line_feed ∷ [])
spaced (f ∷ g ∷ fs) = f ++ (space ∷ spaced (g ∷ fs))

-- event number, answer, subsystem, task, tasks ended
unfoldable pub answer_line : ℕ → ℕ → ℕ → ℕ → ℕ → List ℕ
answer_line n answer subsystem task ended = spaced (decimal n ∷ decimal answer ∷ row_text subsystem ∷ row_text task ∷ ended_text ended ∷ [])

-- the printed line of an outcome
unfoldable pub printed : ℕ → Outcome → List ℕ
printed n o = answer_line n o.answer o.subsystem o.task o.ended

-- on a refused plan: the word plan, the number and the number beside it
unfoldable pub printed_refusal : ℕ → ℕ → List ℕ
printed_refusal n beside = spaced (bytes "plan" ∷ decimal n ∷ decimal beside ∷ [])
