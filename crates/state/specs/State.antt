-- "State": what a state says of a subsystem and of a task.
use Rattle.std.specs.Prelude.{Bool, ◌&&◌, ◌||◌, ℕ, ◌+◌, ◌*◌, ◌-◌, leb, ltb, eqb, get_or, replicate}
use Rattle.below.specs.Below.{any}
use Rattle.below.specs.Listed.{listed}
use Rattle.plan.specs.declared.Plan.{Plan}
use Rattle.plan.specs.Limits.{no_row}
use Rattle.plan.specs.Plan.{owner, is_global, length_of}
use Rattle.state.specs.declared.BudgetLeft.{BudgetLeft}
use Rattle.state.specs.declared.SectionLeft.{SectionLeft}
use Rattle.state.specs.declared.Task.{Task}
use Rattle.state.specs.declared.State.{State}

-- a task holds at most 4 resources
abbrev pub most_held : ℕ
most_held = 4

-- an idle task, and how an absent one looks
unfoldable pub idle_task : Task
idle_task = record { condition = 0; waits = no_row; count = 0; held = replicate most_held no_row }

-- where the i-th held resource of task k stands
unfoldable pub held_place : ℕ → ℕ → ℕ
held_place k i = k * most_held + i

-- task row k
unfoldable pub task_at : State → ℕ → Task
task_at s k =
    record {
      condition = get_or s.conditions k 0;
      waits = get_or s.waits k no_row;
      count = get_or s.counts k 0;
      held = listed most_held (λ i. get_or s.held (held_place k i) no_row);
    }

-- budget left: Q
unfoldable pub left_of : State → ℕ → BudgetLeft
left_of s c = get_or s.left c (record { 0 = 0 })

-- ticks to the next refill
unfoldable pub refill_of : State → ℕ → ℕ
refill_of s c = get_or s.refill c 0

-- ticks used of the global section
unfoldable pub used_of : State → ℕ → ℕ
used_of s c = get_or s.used c 0

-- a subsystem with budget left
unfoldable pub has_budget : State → ℕ → Bool
has_budget s c = ltb 0 (left_of s c).0

-- condition 0: idle
unfoldable pub is_idle : Task → Bool
is_idle t = eqb t.condition 0

-- condition 1: ready
unfoldable pub is_ready : Task → Bool
is_ready t = eqb t.condition 1

-- condition 2: started
unfoldable pub is_started : Task → Bool
is_started t = eqb t.condition 2

-- condition 3: waiting
unfoldable pub is_waiting : Task → Bool
is_waiting t = eqb t.condition 3

-- started or waiting
unfoldable pub is_active : Task → Bool
is_active t = is_started t || is_waiting t

-- the i-th resource that it took
unfoldable pub held_at : Task → ℕ → ℕ
held_at t i = get_or t.held i no_row

-- resource r is among those it holds
unfoldable pub holds : Task → ℕ → Bool
holds t r = any t.count (λ i. eqb (held_at t i) r)

-- the resource taken last
unfoldable pub last_held : Task → ℕ
last_held t = held_at t (t.count - 1)

-- holding a global resource, which is the last it took
unfoldable pub in_section : Plan → Task → Bool
in_section p t = leb 1 t.count && is_global p (last_held t)

-- section length left, q: the declared length of what task k holds, less the ticks used of it
unfoldable pub section_left : Plan → State → ℕ → SectionLeft
section_left p s k = record { 0 = length_of p k (last_held (task_at s k)) - used_of s (owner p k) }
