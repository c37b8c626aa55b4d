-- Demand 3 for the scheduler. Whatever events come, in whatever sequence: in each complete period of a subsystem exactly its budget of ticks is
-- charged to it, counted from the tick answers, and in an unfinished period never more. `count s rows` is how many of some rows are s, and
-- `period_of n k rows` those from place k·n to (k+1)·n − 1.
use Rattle.std.specs.Prelude.{◌≡◌, Bool, true, false, List, [], ◌∷◌, map, ℕ, ◌+◌, ◌*◌, ◌≤◌, ◌<◌, eqb, length, drop}
use Rattle.supply.specs.Charges.{count, period_of}
use Rattle.plan.specs.declared.Plan.{Plan}
use Rattle.plan.specs.Plan.{period, budget}
use Rattle.plan.specs.Accepted.{accepted}
use Rattle.state.specs.declared.State.{State}
use Rattle.state.specs.Fresh.{fresh}
use Rattle.step.specs.declared.Outcome.{Outcome}
use Rattle.step.specs.Refusals.{tick}
use Rattle.step.specs.Step.{stepped, step}

-- an event as it is sent: a kind, a task row and a resource row, each any number
pub record Event : Type 0 where
  pub kind : ℕ
  pub task : ℕ
  pub resource : ℕ

-- "Kinds 0..4": kind 4 is a tick
unfoldable pub is_tick : Event → Bool
is_tick e = eqb e.kind tick

-- "Events": the outcomes of some events, each from the state that the one before left
unfoldable pub outcomes : (State → ℕ → ℕ → ℕ → Outcome) → State → List Event → List Outcome
outcomes steps s [] = []
outcomes steps s (e ∷ es) = let o = steps s e.kind e.task e.resource in o ∷ outcomes steps o.state es

-- of a number for each event, those of the ticks in their order
unfoldable pub of_ticks : List Event → List ℕ → List ℕ
of_ticks [] ns = []
of_ticks (e ∷ es) [] = []
of_ticks (e ∷ es) (n ∷ ns) = elim (is_tick e) [ true ↦ n ∷ of_ticks es ns | false ↦ of_ticks es ns ]

-- "For a tick, subsystem and task are those charged and run": the subsystem that each tick answer names
unfoldable pub tick_answers : List Event → List Outcome → List ℕ
tick_answers es os = of_ticks es (map (λ o. o.subsystem) os)

-- demand 3 for subsystem s: exactly its budget of the ticks of each complete period, at most its budget of those of the unfinished one
pub record GetsBudget (p : Plan) (ticks : List ℕ) (s : ℕ) : Type 0 where
  pub complete : (k : ℕ) → (k + 1) * period p s ≤ length ticks → count s (period_of (period p s) k ticks) ≡ budget p s
  pub unfinished : (k : ℕ) → k * period p s ≤ length ticks → length ticks < (k + 1) * period p s → count s (drop (k * period p s) ticks) ≤ budget p s

-- demand 3: an accepted plan, started fresh, and any events
abbrev pub BudgetsExact : Type 0
BudgetsExact =
    (p : Plan) → accepted p ≡ true → (es : List Event) → (s : ℕ) → s < p.subsystems → GetsBudget p (tick_answers es (outcomes (stepped p) (fresh p) es)) s

-- the same through the step that tests the plan record and the state record at each event: neither is ever refused
pub record StepsExact (p : Plan) (es : List Event) (os : List Outcome) : Type 0 where
  pub budgets : (s : ℕ) → s < p.subsystems → GetsBudget p (tick_answers es os) s
  pub never_31 : count 31 (map (λ o. o.answer) os) ≡ 0
  pub never_32 : count 32 (map (λ o. o.answer) os) ≡ 0

-- demand 3 for the public step
abbrev pub BudgetsExactByStep : Type 0
BudgetsExactByStep = (p : Plan) → accepted p ≡ true → (es : List Event) → StepsExact p es (outcomes (step p) (fresh p) es)
