-- "The run program", one line: an event line on a state, with its printed line behind the fill of a buffer. Without room state and buffer are kept.
use Rattle.std.specs.Prelude.{◌≡◌, true, false, List, ℕ, ◌+◌, length, Option, Some, None}
use Rattle.plan.specs.declared.Plan.{Plan}
use Rattle.state.specs.declared.State.{State}
use Rattle.step.specs.declared.Outcome.{Outcome}
use Rattle.line.specs.Printed.{printed}
use Rattle.line.specs.Filled.{has_room, out_after}
use Rattle.line.specs.Run.{line_gives}
use Rattle.run.specs.declared.Lined.{Lined}

-- what an outcome gives whose printed line has room; otherwise nothing
unfoldable pub lined_by : ℕ → Outcome → List ℕ → ℕ → Option Lined
lined_by n o out fill =
    elim (has_room out fill (printed n o)) [ true ↦ Some (record { answer = o.answer; fill = fill + length (printed n o) }) | false ↦ None ]

-- its state is taken over; without room the state before it stays
unfoldable pub lined_state_by : State → ℕ → Outcome → List ℕ → ℕ → State
lined_state_by s n o out fill = elim (has_room out fill (printed n o)) [ true ↦ o.state | false ↦ s ]

-- the n-th event line on a legal state
unfoldable pub lined : Plan → State → ℕ → List ℕ → List ℕ → ℕ → Option Lined
lined p s n line out fill = lined_by n (line_gives p s line) out fill

-- the state then
unfoldable pub lined_state : Plan → State → ℕ → List ℕ → List ℕ → ℕ → State
lined_state p s n line out fill = lined_state_by s n (line_gives p s line) out fill

-- the buffer then
unfoldable pub lined_out : Plan → State → ℕ → List ℕ → List ℕ → ℕ → List ℕ
lined_out p s n line out fill = out_after out fill (printed n (line_gives p s line))

-- the n-th event line with room for its printed line: the state then, the fill behind that line, and the buffer
pub record LinePut (p : Plan) (s : State) (n : ℕ) (line out : List ℕ) (fill : ℕ) (next : State) (end : ℕ) (after : List ℕ) : Type 0 where
  pub state : next ≡ (line_gives p s line).state
  pub filled : end ≡ fill + length (printed n (line_gives p s line))
  pub written : after ≡ out_after out fill (printed n (line_gives p s line))
