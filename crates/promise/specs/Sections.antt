-- A section never keeps the processor from a higher row for longer than its declared length, whatever the jobs do inside it.
use Rattle.std.specs.Prelude.{◌≡◌, true, cond, List, [], ◌∷◌, ℕ, ◌+◌, ◌≤◌, ◌<◌, ltb}
use Rattle.plan.specs.declared.Plan.{Plan}
use Rattle.plan.specs.Plan.{owner, is_global, length_of, declares, level}
use Rattle.plan.specs.Ceiling.{global_ceiling}
use Rattle.plan.specs.Admission.{blocking}
use Rattle.plan.specs.Accepted.{accepted}
use Rattle.state.specs.declared.State.{State}
use Rattle.state.specs.State.{task_at, left_of, last_held, in_section, section_left}
use Rattle.state.specs.Sized.{Sized}
use Rattle.legal.specs.Legal.{legal}
use Rattle.step.specs.Step.{stepped}
use Rattle.promise.specs.Budgets.{Event, outcomes, tick_answers}

-- a row, or one at least as high, has budget left, so that the processor is due to it
pub record Due (p : Plan) (s : State) (row : ℕ) : Type 0 where
  pub by : ℕ
  pub there : by < p.subsystems
  pub high : level p by ≤ level p row
  pub busy : 0 < (left_of s by).0

-- that is so before each of some events
abbrev pub DueThroughout : Plan → State → ℕ → List Event → Type 0
DueThroughout p s row [] = Unit
DueThroughout p s row (e ∷ es) = Due p s row × DueThroughout p (stepped p s e.kind e.task e.resource).state row es

-- how many of the rows that some ticks name have a larger level than a given one
unfoldable pub count_lower : Plan → ℕ → List ℕ → ℕ
count_lower p row [] = 0
count_lower p row (c ∷ cs) = cond (ltb (level p row) (level p c)) 1 0 + count_lower p row cs

-- one task of a lower row holds a global to begin with, of a ceiling that reaches the row; n ticks are at most what is left of its section, so at
-- most the length that it declares
pub record WithinSection (p : Plan) (s : State) (row n : ℕ) : Type 0 where
  pub task : ℕ
  pub there : task < p.tasks
  pub lower : level p row < level p (owner p task)
  pub inside : in_section p (task_at s task) ≡ true
  pub global : is_global p (last_held (task_at s task)) ≡ true
  pub reaches : global_ceiling p (last_held (task_at s task)) ≤ level p row
  pub declared : declares p task (last_held (task_at s task)) ≡ true
  pub left : n ≤ (section_left p s task).0
  pub length : n ≤ length_of p task (last_held (task_at s task))

-- n ticks went to lower rows: if any did, within one section; and "Admission": no more than B in any case
pub record HeldUp (p : Plan) (s : State) (row n : ℕ) : Type 0 where
  pub section : 0 < n → WithinSection p s row n
  pub most : n ≤ blocking p row

-- from any legal state, while the processor is due to a row or one at least as high, whatever the events
abbrev pub SectionsBounded : Type 0
SectionsBounded =
    (p : Plan) → accepted p ≡ true → (s : State) → Sized s → legal p s ≡ true → (row : ℕ) → row < p.subsystems
    → (es : List Event) → DueThroughout p s row es → HeldUp p s row (count_lower p row (tick_answers es (outcomes (stepped p) s es)))
