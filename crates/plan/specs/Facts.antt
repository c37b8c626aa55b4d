-- What the test of an accepted plan says, as facts with names.
use Rattle.std.specs.Prelude.{◌≡◌, true, false, ℕ, ◌≤◌, ◌<◌, get_or}
use Rattle.plan.specs.declared.Plan.{Plan}
use Rattle.plan.specs.Limits.{most_subsystems, most_tasks, most_resources, longest}
use Rattle.plan.specs.Plan.{period, budget, owner, is_global, length_of, declares}
use Rattle.plan.specs.Admission.{demand}

pub record Accepted (p : Plan) : Type 0 where
  -- 23 and 29: how many rows
  pub some_subsystem : 1 ≤ p.subsystems
  pub subsystems_most : p.subsystems ≤ most_subsystems
  pub tasks_most : p.tasks ≤ most_tasks
  pub resources_most : p.resources ≤ most_resources
  -- 25: period and budget
  pub period_whole : (s : ℕ) → s < p.subsystems → 1 ≤ period p s
  pub period_most : (s : ℕ) → s < p.subsystems → period p s ≤ longest
  pub budget_whole : (s : ℕ) → s < p.subsystems → 1 ≤ budget p s
  pub budget_most : (s : ℕ) → s < p.subsystems → budget p s ≤ period p s
  -- 24: the subsystem of a task
  pub owner_there : (t : ℕ) → t < p.tasks → owner p t < p.subsystems
  -- L or G
  pub kind_known : (r : ℕ) → r < p.resources → get_or p.kinds r 0 ≤ 1
  -- 25 and 28: lengths of the pairs declared
  pub global_length : (t r : ℕ) → t < p.tasks → r < p.resources → declares p t r ≡ true → is_global p r ≡ true → 1 ≤ length_of p t r
  pub global_longest : (t r : ℕ) → t < p.tasks → r < p.resources → declares p t r ≡ true → is_global p r ≡ true → length_of p t r ≤ longest
  pub within_budget : (t r : ℕ) → t < p.tasks → r < p.resources → declares p t r ≡ true → is_global p r ≡ true → length_of p t r ≤ budget p (owner p t)
  pub local_length : (t r : ℕ) → t < p.tasks → r < p.resources → declares p t r ≡ true → is_global p r ≡ false → length_of p t r ≡ 0
  -- 27: a local resource is used from one subsystem
  pub one_subsystem : (r j k : ℕ) → r < p.resources → j < p.tasks → k < p.tasks → is_global p r ≡ false → declares p j r ≡ true → declares p k r ≡ true → owner p j ≡ owner p k
  -- rows that are not there have 0
  pub no_period : (s : ℕ) → s < most_subsystems → p.subsystems ≤ s → period p s ≡ 0
  pub no_budget : (s : ℕ) → s < most_subsystems → p.subsystems ≤ s → budget p s ≡ 0
  pub no_owner : (t : ℕ) → t < most_tasks → p.tasks ≤ t → owner p t ≡ 0
  pub no_kind : (r : ℕ) → r < most_resources → p.resources ≤ r → get_or p.kinds r 0 ≡ 0
  pub no_length_task : (t r : ℕ) → t < most_tasks → r < most_resources → p.tasks ≤ t → length_of p t r ≡ 0
  pub no_length_resource : (t r : ℕ) → t < most_tasks → r < most_resources → p.resources ≤ r → length_of p t r ≡ 0
  -- 30: no margin is negative
  pub fits : (s : ℕ) → s < p.subsystems → demand p s ≤ period p s
