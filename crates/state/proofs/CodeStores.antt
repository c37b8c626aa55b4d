-- What the stores of the code rest on: one past the end changes nothing.
use mathlib.Core.Path.{◌≡◌, sym, ◌∙◌}
use mathlib.Core.List.{List, map}
use Prim.Native.Nat.{ℕ, ◌+◌, ◌*◌, ◌≤◌}
use native.Mathlib.Omega.{arith}
use lib.ListN.{length, length-map, set}
use lib.Seq.{set_out}
use Rattle.state.specs.declared.BudgetLeft.{BudgetLeft}
use Rattle.state.specs.declared.Task.{Task}
use Rattle.state.specs.declared.State.{State}
use Rattle.state.specs.State.{held_place, held_at}
use Rattle.state.specs.Update.{with_held, with_task, with_left, with_used}

-- what owning an array of structs tells of its list
pub unmapped : (X Y : Type 0) (f : X → Y) (l : List X) (n : ℕ) → length (map f l) ≡ n → length l ≡ n
unmapped X Y f l n e = sym (length-map l f) ∙ e

-- in any list
pub past : {X : Type 0} (l : List X) (i : ℕ) (v : X) → length l ≤ i → set l i v ≡ l
past l i v h = set_out l i v h

module _ (s : State) where
  pub with_left_past : (c : ℕ) (q : BudgetLeft) → length s.left ≡ 8 → 8 ≤ c → s ≡ with_left s c q
  unfolding with_left
  with_left_past c q e h = rw (set_out s.left c q (omega arith))

  pub with_used_past : (c n : ℕ) → length s.used ≡ 8 → 8 ≤ c → s ≡ with_used s c n
  unfolding with_used
  with_used_past c n e h = rw (set_out s.used c n (omega arith))

  pub with_task_past : (k : ℕ) (t : Task) → length s.conditions ≡ 32 → length s.waits ≡ 32 → length s.counts ≡ 32
      → length s.held ≡ 128 → 32 ≤ k → s ≡ with_task s k t
  unfolding with_task with_held held_place
  with_task_past k t e₁ e₂ e₃ e₄ h =
      rw (
        set_out s.conditions k t.condition (omega arith),
        set_out s.waits k t.waits (omega arith),
        set_out s.counts k t.count (omega arith),
        set_out s.held (k * 4 + 0) (held_at t 0) (omega arith),
        set_out s.held (k * 4 + 1) (held_at t 1) (omega arith),
        set_out s.held (k * 4 + 2) (held_at t 2) (omega arith),
        set_out s.held (k * 4 + 3) (held_at t 3) (omega arith),
      )
