-- "State", fresh: what the state that a run starts in holds.
use mathlib.Core.Path.{◌≡◌, refl, sym, ◌∙◌}
use Prim.Native.Nat.{ℕ, ◌+◌, ◌*◌, ◌<◌}
use native.Mathlib.Omega.{arith}
use lib.ListN.{get_or, replicate, get_or-replicate}
use Rattle.below.proofs.Listed.{length_listed, get_or_listed, listed_agree, listed_get_or}
use Rattle.plan.specs.declared.Plan.{Plan}
use Rattle.plan.specs.Limits.{most_subsystems, most_tasks, no_row}
use Rattle.plan.specs.Plan.{period, budget}
use Rattle.state.specs.State.{most_held, held_place, idle_task, task_at, left_of, refill_of, used_of}
use Rattle.state.specs.Fresh.{fresh}
use Rattle.state.specs.Sized.{Sized}
use Rattle.state.proofs.Update.{same_task}

module _ (p : Plan) where
  -- every task is idle
  pub fresh_task : (k : ℕ) → k < most_tasks → task_at (fresh p) k ≡ idle_task
  unfolding task_at fresh idle_task held_place
  fresh_task k h =
      same_task _ _
      (get_or-replicate most_tasks k 0 0 h)
      (get_or-replicate most_tasks k no_row no_row h)
      (get_or-replicate most_tasks k 0 0 h)
      (listed_agree most_held _ (λ i. get_or (replicate most_held no_row) i no_row)
      (λ i l. get_or-replicate 128 (k * most_held + i) no_row no_row (omega arith) ∙ sym (get_or-replicate most_held i no_row no_row l))
      ∙ listed_get_or no_row (replicate most_held no_row) most_held refl)

  -- full budgets
  pub fresh_left_lem : (c : ℕ) → c < most_subsystems → (left_of (fresh p) c).0 ≡ budget p c
  unfolding left_of fresh
  fresh_left_lem c h = rw (get_or_listed most_subsystems _ c _ h)

  -- full periods
  pub fresh_refill : (c : ℕ) → c < most_subsystems → refill_of (fresh p) c ≡ period p c
  unfolding refill_of fresh
  fresh_refill c h = get_or_listed most_subsystems _ c 0 h

  -- nothing used
  pub fresh_used : (c : ℕ) → c < most_subsystems → used_of (fresh p) c ≡ 0
  unfolding used_of fresh
  fresh_used c h = get_or-replicate most_subsystems c 0 0 h

  -- lists of the right lengths
  pub fresh_sized : Sized (fresh p)
  unfolding fresh
  fresh_sized =
      record {
        left = length_listed most_subsystems _;
        refill = length_listed most_subsystems _;
        used = refl;
        conditions = refl;
        waits = refl;
        counts = refl;
        held = refl;
      }
