-- The lengths of a state's lists: those of the arrays of its record.
use Rattle.std.specs.Prelude.{◌≡◌, length}
use Rattle.plan.specs.Limits.{most_subsystems, most_tasks}
use Rattle.state.specs.declared.State.{State}

-- 8 subsystems, 32 tasks, and 4 places of held resources for each task
pub record Sized (s : State) : Type 0 where
  pub left : length s.left ≡ most_subsystems
  pub refill : length s.refill ≡ most_subsystems
  pub used : length s.used ≡ most_subsystems
  pub conditions : length s.conditions ≡ most_tasks
  pub waits : length s.waits ≡ most_tasks
  pub counts : length s.counts ≡ most_tasks
  pub held : length s.held ≡ 128
