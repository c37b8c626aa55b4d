-- "The run program": a plan text and an event text to the printed text.
use Rattle.std.specs.Prelude.{List, [], ◌∷◌, ◌++◌, ℕ, ◌+◌, take}
use Rattle.std.specs.Prelude.{Option, Some, None, Ok, Err}
use Rattle.text.specs.Lines.{lines}
use Rattle.plan.specs.declared.Plan.{Plan}
use Rattle.reader.specs.Numbers.{number, beside}
use Rattle.reader.specs.Reading.{reading}
use Rattle.state.specs.declared.State.{State}
use Rattle.state.specs.Fresh.{fresh}
use Rattle.step.specs.declared.Outcome.{Outcome}
use Rattle.step.specs.Events.{answered}
use Rattle.step.specs.Step.{stepped}
use Rattle.step.specs.Kinds.{kind_number}
use Rattle.line.specs.declared.Event.{Event}
use Rattle.line.specs.Event.{event_of}
use Rattle.line.specs.Printed.{printed, printed_refusal}

-- at most 9,999,999 lines, then it stops
abbrev pub most_lines : ℕ
most_lines = 9999999

-- a line that is no event is answered 11
unfoldable pub event_gives : Plan → State → Option Event → Outcome
event_gives p s (Some e) = stepped p s (kind_number e.kind) e.task e.resource
event_gives p s None = answered p s 11

-- what an event line gives
unfoldable pub line_gives : Plan → State → List ℕ → Outcome
line_gives p s l = event_gives p s (event_of l)

-- the outcomes of some lines, one after the other
unfoldable pub outcomes : Plan → State → List (List ℕ) → List Outcome
outcomes p s [] = []
outcomes p s (l ∷ ls) = let o = line_gives p s l in o ∷ outcomes p o.state ls

-- their printed lines, numbered from n
unfoldable pub printed_from : ℕ → List Outcome → List ℕ
printed_from n [] = []
printed_from n (o ∷ os) = printed n o ++ printed_from (n + 1) os

-- one line an event, events numbered from 1
unfoldable pub printed_run : Plan → List ℕ → List ℕ
printed_run p events = printed_from 1 (outcomes p (fresh p) (take most_lines (lines events)))

-- a refused plan prints its refusal alone; an accepted one runs from its fresh state
unfoldable pub run : List ℕ → List ℕ → List ℕ
run plan events = elim (reading plan) [ Ok p ↦ printed_run p events | Err e ↦ printed_refusal (number e) (beside e) ]
