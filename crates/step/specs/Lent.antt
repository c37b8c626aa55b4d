-- What the functions of a step say of their parts: the kinds of events and what is asked of one, and a tick's parts.
use Rattle.std.specs.Prelude.{◌≡◌, Bool, true, false, ◌&&◌, ℕ, ◌-◌, leb, ltb, eqb}
use Rattle.plan.specs.declared.Plan.{Plan}
use Rattle.plan.specs.Limits.{no_row}
use Rattle.plan.specs.Plan.{period, budget}
use Rattle.state.specs.declared.BudgetLeft.{BudgetLeft}
use Rattle.state.specs.declared.State.{State}
use Rattle.state.specs.State.{task_at, left_of, refill_of, in_section, section_left}
use Rattle.choice.specs.Choice.{chosen, chosen_task, running}
use Rattle.step.specs.declared.Outcome.{Outcome}
use Rattle.step.specs.declared.Answer.{Answer}
use Rattle.step.specs.declared.order.Asked.{Asked}
use Rattle.step.specs.declared.order.RowKind.{RowKind}
use Rattle.step.specs.declared.order.RowKind.TheVariants.{Release, Lock, Unlock, End}
use Rattle.step.specs.declared.tick.Settled.{Settled}
use Rattle.step.specs.Refusals.{release, lock, unlock, end}
use Rattle.step.specs.Step.{answer_of}
use Rattle.step.specs.Tick.{shut_spent}

-- the number of a kind of events at rows
abbrev pub row_kind_number : RowKind → ℕ
row_kind_number Release = release
row_kind_number Lock = lock
row_kind_number Unlock = unlock
row_kind_number End = end

-- what a refusal is asked of stands so in a state: its task, and the row that runs
pub record AskedOf (p : Plan) (s : State) (a : Asked) : Type 0 where
  pub of_task : a.task ≡ task_at s a.row
  pub of_running : a.running ≡ running p s

-- an answer and a state are those of an outcome
abbrev pub Answers : Outcome → Answer → State → Type 0
Answers o a s = (a ≡ answer_of o) × (s ≡ o.state)

-- a number that a host hands over, as a row of one byte
unfoldable pub narrow : ℕ → ℕ
narrow row = elim (ltb row no_row) [ true ↦ row | false ↦ no_row ]

-- task k holds a global whose length is used up
unfoldable pub spent_at : Plan → State → ℕ → Bool
spent_at p s k = in_section p (task_at s k) && eqb (section_left p s k).0 0

-- (d) budget left of one subsystem
unfoldable pub left_next : Plan → State → ℕ → BudgetLeft
left_next p s c = elim (leb (refill_of s c) 1) [ true ↦ record { 0 = budget p c } | false ↦ left_of s c ]

-- (d) its ticks to refill
unfoldable pub refill_next : Plan → State → ℕ → ℕ
refill_next p s c = elim (leb (refill_of s c) 1) [ true ↦ period p c | false ↦ refill_of s c - 1 ]

-- state u and the tasks ended are those after (a), and the choice is that of the state then
pub record Settles (p : Plan) (s u : State) (x : Settled) : Type 0 where
  pub state : u ≡ (shut_spent p s).state
  pub ended : x.ended ≡ (shut_spent p s).ended
  pub subsystem : x.subsystem ≡ chosen p u
  pub task : x.task ≡ chosen_task p u
