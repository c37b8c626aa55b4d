-- What a line needs of the plan it is added to: a place for its row, and numbers that fit there. A line that was accepted has it.
use Rattle.std.specs.Prelude.{◌≤◌, ◌<◌}
use Rattle.plan.specs.declared.Plan.{Plan}
use Rattle.plan.specs.Limits.{most_subsystems, most_tasks, most_resources, longest}
use Rattle.reader.specs.declared.Line.{Line}
use Rattle.reader.specs.declared.Line.TheVariants.{Subsystem, Task, Resource, Uses}
use Rattle.std.specs.Prelude.{Option, Some, None}

-- no more rows than may be
pub record Counts (p : Plan) : Type 0 where
  pub subsystems : p.subsystems ≤ most_subsystems
  pub tasks : p.tasks ≤ most_tasks
  pub resources : p.resources ≤ most_resources

abbrev pub Room : Plan → Option Line → Type 0
Room p (Some (Subsystem period budget)) = (p.subsystems < most_subsystems) × (period ≤ longest) × (budget ≤ longest)
Room p (Some (Task subsystem)) = (p.tasks < most_tasks) × (subsystem < most_subsystems)
Room p (Some (Resource kind)) = (p.resources < most_resources) × (p.tasks ≤ most_tasks)
Room p (Some (Uses task resource length)) = (task < most_tasks) × (resource < most_resources) × (length ≤ longest)
Room p None = Unit
