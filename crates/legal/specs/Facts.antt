-- "State": what the test of a legal state says, as facts with names.
use Rattle.std.specs.Prelude.{◌≡◌, true, false, ◌||◌, ◌⊎◌, ℕ, ◌+◌, ◌≤◌, ◌<◌}
use Rattle.plan.specs.declared.Plan.{Plan}
use Rattle.plan.specs.Limits.{most_subsystems, most_tasks, no_row}
use Rattle.plan.specs.Plan.{period, budget, owner, is_global, length_of, declares, taken_before}
use Rattle.plan.specs.Ceiling.{local_ceiling}
use Rattle.state.specs.declared.Task.{Task}
use Rattle.state.specs.declared.State.{State}
use Rattle.state.specs.State.{most_held, task_at, left_of, refill_of, used_of, is_idle, is_ready, is_waiting, held_at, last_held, in_section, section_left}
use Rattle.legal.specs.Legal.{active_before, below_section}

-- the i-th resource held by task k: there, declared, unlike those taken before, and the last one if it is global
pub record HeldLegal (p : Plan) (k : ℕ) (t : Task) (i : ℕ) : Type 0 where
  pub there : held_at t i < p.resources
  pub declared : declares p k (held_at t i) ≡ true
  pub distinct : (j : ℕ) → j < i → held_at t j ≡ held_at t i → ⊥
  pub global_last : is_global p (held_at t i) ≡ true → i + 1 ≡ t.count

-- a waiting task waits for a global that it declares, holds no global and at most 3 others
pub record WaitLegal (p : Plan) (k : ℕ) (t : Task) : Type 0 where
  pub there : t.waits < p.resources
  pub global : is_global p t.waits ≡ true
  pub declared : declares p k t.waits ≡ true
  pub outside : in_section p t ≡ false
  pub room : t.count ≤ 3

-- how task k is written and what it holds, by itself
pub record TaskLegal (p : Plan) (k : ℕ) (t : Task) : Type 0 where
  pub condition : t.condition ≤ 3
  pub count : t.count ≤ most_held
  pub unheld : (i : ℕ) → i < most_held → t.count ≤ i → held_at t i ≡ no_row
  pub unawaited : is_waiting t ≡ false → t.waits ≡ no_row
  pub held : (i : ℕ) → i < t.count → HeldLegal p k t i
  pub resting : (is_idle t || is_ready t) ≡ true → t.count ≡ 0
  pub waiting : is_waiting t ≡ true → WaitLegal p k t

pub record Legal (p : Plan) (s : State) : Type 0 where
  -- budget left at most the budget; ticks to refill 1 to the period
  pub left_most : (c : ℕ) → c < p.subsystems → (left_of s c).0 ≤ budget p c
  pub refill_ahead : (c : ℕ) → c < p.subsystems → 1 ≤ refill_of s c
  pub refill_most : (c : ℕ) → c < p.subsystems → refill_of s c ≤ period p c
  -- used is 0 without a section
  pub unused : (c : ℕ) → c < p.subsystems → ((k : ℕ) → k < p.tasks → owner p k ≡ c → in_section p (task_at s k) ≡ false) → used_of s c ≡ 0
  -- absent subsystems are all 0, absent tasks idle
  pub no_left : (c : ℕ) → c < most_subsystems → p.subsystems ≤ c → (left_of s c).0 ≡ 0
  pub no_refill : (c : ℕ) → c < most_subsystems → p.subsystems ≤ c → refill_of s c ≡ 0
  pub no_used : (c : ℕ) → c < most_subsystems → p.subsystems ≤ c → used_of s c ≡ 0
  pub no_task : (k : ℕ) → k < most_tasks → p.tasks ≤ k → ((task_at s k).condition ≡ 0) × ((task_at s k).waits ≡ no_row) × ((task_at s k).count ≡ 0) × ((i : ℕ) → i < most_held → held_at (task_at s k) i ≡ no_row)
  -- each task by itself
  pub task : (k : ℕ) → k < p.tasks → TaskLegal p k (task_at s k)
  -- inside a section: used at most its length, and budget left at least section left (Invariant 1 of source 001)
  pub used_most : (k : ℕ) → k < p.tasks → in_section p (task_at s k) ≡ true → used_of s (owner p k) ≤ length_of p k (last_held (task_at s k))
  pub left_enough : (k : ℕ) → k < p.tasks → in_section p (task_at s k) ≡ true → (section_left p s k).0 ≤ (left_of s (owner p k)).0
  -- each started or waiting task taken before a holder of a local lies below its ceiling number
  pub locals : (k i : ℕ) → k < p.tasks → i < (task_at s k).count → is_global p (held_at (task_at s k) i) ≡ false
      → (j : ℕ) → j < p.tasks → active_before p s k j ≡ true → taken_before p j (local_ceiling p (held_at (task_at s k) i)) ≡ true
  -- no such task before one that waits or holds a global
  pub globals : (k : ℕ) → k < p.tasks → (is_waiting (task_at s k) || in_section p (task_at s k)) ≡ true
      → (j : ℕ) → j < p.tasks → active_before p s k j ≡ false
  -- of two subsystems holding globals, one is below the other's ceiling number
  pub sections : (j k : ℕ) → j < p.tasks → k < p.tasks → in_section p (task_at s j) ≡ true → in_section p (task_at s k) ≡ true
      → (owner p j ≡ owner p k → ⊥) → (below_section p s j k ≡ true) ⊎ (below_section p s k j ≡ true)
