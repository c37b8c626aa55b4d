-- "State", fresh: all tasks idle, full budgets, full periods to go.
use Rattle.std.specs.Prelude.{replicate}
use Rattle.below.specs.Listed.{listed}
use Rattle.plan.specs.declared.Plan.{Plan}
use Rattle.plan.specs.Limits.{most_subsystems, most_tasks, no_row}
use Rattle.plan.specs.Plan.{period, budget}
use Rattle.state.specs.declared.State.{State}

-- the state that a run starts in
unfoldable pub fresh : Plan → State
fresh p =
    record {
      left = listed most_subsystems (λ c. record { 0 = budget p c });
      refill = listed most_subsystems (period p);
      used = replicate most_subsystems 0;
      conditions = replicate most_tasks 0;
      waits = replicate most_tasks no_row;
      counts = replicate most_tasks 0;
      held = replicate 128 no_row;
    }
