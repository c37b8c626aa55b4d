-- A state with one thing changed. All that the events alter goes through these.
use Rattle.std.specs.Prelude.{List, ℕ, zero, suc, ◌+◌, ◌-◌, set}
use Rattle.plan.specs.Limits.{no_row}
use Rattle.state.specs.declared.BudgetLeft.{BudgetLeft}
use Rattle.state.specs.declared.Task.{Task}
use Rattle.state.specs.declared.State.{State}
use Rattle.state.specs.State.{most_held, held_place, held_at}

-- the first n held resources of task k are those of t
unfoldable pub with_held : List ℕ → ℕ → Task → ℕ → List ℕ
with_held held k t zero = held
with_held held k t (suc n) = set (with_held held k t n) (held_place k n) (held_at t n)

-- another task at row k
unfoldable pub with_task : State → ℕ → Task → State
with_task s k t =
    record {
      left = s.left;
      refill = s.refill;
      used = s.used;
      conditions = set s.conditions k t.condition;
      waits = set s.waits k t.waits;
      counts = set s.counts k t.count;
      held = with_held s.held k t most_held;
    }

-- another budget left for subsystem c
unfoldable pub with_left : State → ℕ → BudgetLeft → State
with_left s c q =
    record {
      left = set s.left c q;
      refill = s.refill;
      used = s.used;
      conditions = s.conditions;
      waits = s.waits;
      counts = s.counts;
      held = s.held;
    }

-- another used count for subsystem c
unfoldable pub with_used : State → ℕ → ℕ → State
with_used s c n =
    record {
      left = s.left;
      refill = s.refill;
      used = set s.used c n;
      conditions = s.conditions;
      waits = s.waits;
      counts = s.counts;
      held = s.held;
    }

-- a task released, with what it holds
unfoldable pub readied : Task → Task
readied t = record { condition = 1; waits = no_row; count = t.count; held = t.held }

-- a task started
unfoldable pub started : Task → Task
started t = record { condition = 2; waits = no_row; count = t.count; held = t.held }

-- a task made to wait for a resource
unfoldable pub waiting_for : Task → ℕ → Task
waiting_for t r = record { condition = 3; waits = r; count = t.count; held = t.held }

-- a task that takes a resource, and so is started
unfoldable pub taking : Task → ℕ → Task
taking t r = record { condition = 2; waits = no_row; count = t.count + 1; held = set t.held t.count r }

-- a task that gives back the resource taken last
unfoldable pub giving_back : Task → Task
giving_back t =
    record { condition = t.condition; waits = t.waits; count = t.count - 1; held = set t.held (t.count - 1) no_row }
