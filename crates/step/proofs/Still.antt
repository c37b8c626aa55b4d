-- "Events": only a tick changes budget left and ticks to refill, and of a tick only (c) and (d) do.
use mathlib.Core.Path.{◌≡◌, refl, ◌∙◌}
use mathlib.Core.Bool.{Bool, true, false, ◌&&◌}
use Prim.Native.Nat.{ℕ, ◌+◌}
use lib.Dec.{ltb}
use Rattle.plan.specs.declared.Plan.{Plan}
use Rattle.plan.specs.Plan.{owner}
use Rattle.state.specs.declared.Task.{Task}
use Rattle.state.specs.declared.State.{State}
use Rattle.state.specs.State.{task_at, left_of, refill_of, used_of, is_waiting, in_section}
use Rattle.state.specs.Update.{with_task, with_used, started}
use Rattle.step.specs.Refusals.{tick}
use Rattle.step.specs.Events.{released, length_fits_budget, with_taken, ended_task}
use Rattle.step.specs.Tick.{shut_spent, given_waited, ran}
use Rattle.step.specs.Step.{stepped}
use Rattle.step.proofs.Turns.{shut_case}
use Rattle.step.proofs.Cases.{stepped_cases}

-- budget left and ticks to refill are what they were
pub record Still (s u : State) : Type 0 where
  pub left : (c : ℕ) → left_of u c ≡ left_of s c
  pub refill : (c : ℕ) → refill_of u c ≡ refill_of s c

-- nothing happened
pub still_same : (s : State) → Still s s
still_same s = record { left = λ c. refl; refill = λ c. refl }

-- one after the other
pub still_then : (s u v : State) → Still s u → Still u v → Still s v
still_then s u v a b = record { left = λ c. b.left c ∙ a.left c; refill = λ c. b.refill c ∙ a.refill c }

-- another task
still_task : (s : State) (k : ℕ) (t : Task) → Still s (with_task s k t)
unfolding with_task left_of refill_of
still_task s k t = record { left = λ c. refl; refill = λ c. refl }

-- and another used count
still_used : (s : State) (k : ℕ) (t : Task) (c n : ℕ) → Still s (with_used (with_task s k t) c n)
unfolding with_task with_used left_of refill_of
still_used s k t c n = record { left = λ d. refl; refill = λ d. refl }

-- (a)
pub shut_still : (p : Plan) (s : State) → Still s (shut_spent p s).state
unfolding ended_task
shut_still p s = shut_case p (Still s) (λ u a e. still_then s u _ a (still_used u _ _ _ 0)) s (still_same s)

-- (b)
pub given_still : (p : Plan) (s : State) (k : ℕ) → Still s (given_waited p s k)
unfolding given_waited with_taken
given_still p s k = go (is_waiting (task_at s k) && length_fits_budget p s k (task_at s k).waits)
  where
    go : (b : Bool) → Still s (elim b [ true ↦ with_taken s k (task_at s k).waits | false ↦ s ])
    go true = still_task s k _
    go false = still_same s

-- (c), but for the charge
pub ran_still : (p : Plan) (s : State) (k : ℕ) → Still s (ran p s k)
unfolding ran
ran_still p s k = go (ltb k p.tasks) (in_section p (started (task_at s k)))
  where
    go : (a b : Bool)
        → Still s
        (elim a [
          | false ↦ s
          | true ↦ elim b [
            | true ↦ with_used (with_task s k (started (task_at s k))) (owner p k) (used_of s (owner p k) + 1)
            | false ↦ with_task s k (started (task_at s k))
          ]
        ])
    go false b = still_same s
    go true true = still_used s k _ (owner p k) _
    go true false = still_task s k _

-- any other event
pub stepped_still : (p : Plan) (s : State) (kind k r : ℕ) → (kind ≡ tick → ⊥) → Still s (stepped p s kind k r).state
unfolding released with_taken ended_task
stepped_still p s kind k r n =
    stepped_cases p s kind k r (Still s)
    (record {
      kept = still_same s;
      on_release = λ e. still_task s k _;
      on_take = λ e f. still_task s k _;
      on_wait = λ e g. still_task s k _;
      on_unlock_local = λ e g. still_task s k _;
      on_unlock_global = λ e g. still_used s k _ (owner p k) 0;
      on_end = λ e. still_task s k _;
      on_tick = λ e. absurd (n e);
    })
