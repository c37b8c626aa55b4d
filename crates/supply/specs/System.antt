-- What the budget theorem speaks of: rows with a level, a period and a budget, a state that events move, and of the state three numbers a row.
-- Tasks, sections and resources do not occur.
use Rattle.std.specs.Prelude.{Bool, ℕ}

-- a system of rows under events
pub record System : Type 1 where
  pub State : Type 0
  pub Event : Type 0
  -- a state the events can lead to
  pub Legal : State → Type 0
  -- the state after an event
  pub next : State → Event → State
  pub tick : Event → Bool
  -- the row that a tick charges; rows or more where it charges none
  pub charged : State → Event → ℕ
  pub rows : ℕ
  -- a smaller level is a higher priority
  pub level : ℕ → ℕ
  pub period : ℕ → ℕ
  pub budget : ℕ → ℕ
  -- budget left, and ticks to the next refill
  pub left : State → ℕ → ℕ
  pub refill : State → ℕ → ℕ
  -- how long rows of larger level can still hold the row back
  pub strict : State → ℕ → ℕ
