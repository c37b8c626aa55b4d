-- "State", fresh: the state that a run starts in is legal.
use mathlib.Core.Path.{◌≡◌, refl, ◌∙◌}
use mathlib.Core.Bool.{true}
use Prim.Native.Nat.{ℕ, ◌≤◌, ◌<◌}
use native.Mathlib.Nat.{not-suc-le-zero}
use native.Mathlib.Omega.{arith}
use Rattle.below.proofs.Tests.{clash}
use Rattle.plan.specs.declared.Plan.{Plan}
use Rattle.plan.specs.Limits.{most_subsystems}
use Rattle.plan.specs.Facts.{Accepted}
use Rattle.state.specs.State.{idle_task, task_at, is_active}
use Rattle.state.specs.Fresh.{fresh}
use Rattle.state.proofs.TaskUpdate.{idle_active, idle_waiting, idle_held, idle_section}
use Rattle.state.proofs.Fresh.{fresh_task, fresh_left_lem, fresh_refill, fresh_used}
use Rattle.legal.specs.Facts.{TaskLegal, Legal}
use Rattle.legal.proofs.TaskFacts.{Absent}
use Rattle.legal.proofs.Parts.{Tasks, CountsAt, NoCounts, legal_of}
use Rattle.legal.proofs.Counts.{counts_out}

-- an idle task is legal at any row, and looks absent

pub idle_legal : (p : Plan) (k : ℕ) → TaskLegal p k idle_task
unfolding idle_task
idle_legal p k =
    record {
      condition = omega arith;
      count = omega arith;
      unheld = λ i l m. idle_held i l;
      unawaited = λ w. refl;
      held = λ i l. absurd (not-suc-le-zero l);
      resting = λ e. refl;
      waiting = λ w. absurd (clash w idle_waiting);
    }

pub idle_absent : Absent idle_task
unfolding idle_task
idle_absent = (refl, refl, refl, λ i l. idle_held i l)

module _ (p : Plan) where
  -- idle tasks are legal together
  fresh_tasks : Accepted p → Tasks p (task_at (fresh p))
  fresh_tasks A =
      record {
        absent = λ k l h. rw (fresh_task p k l) idle_absent;
        task = λ k h. rw (idle k h) (idle_legal p k);
        locals = λ k i h l g j m a. absurd (still j m a.active);
        globals = λ k h e j m a. still j m a.active;
        sections = λ j k h l a b n. absurd (clash (rw (idle j h) at a) (idle_section p));
      }
    where
      idle : (k : ℕ) → k < p.tasks → task_at (fresh p) k ≡ idle_task
      idle k h = fresh_task p k (omega (arith, A.tasks_most))

      still : (k : ℕ) → k < p.tasks → is_active (task_at (fresh p) k) ≡ true → ⊥
      still k h a = clash (rw (idle k h) at a) idle_active

  -- the fresh state is legal
  pub fresh_legal : Accepted p → Legal p (fresh p)
  fresh_legal A = legal_of p (fresh p) A (fresh_tasks A) counts none
    where
      counts : (c : ℕ) → c < p.subsystems → CountsAt p (fresh p) c
      counts c h =
          let l : c < most_subsystems = omega (arith, A.subsystems_most) in
          counts_out p (fresh p) c (omega (arith, fresh_left_lem p c l)) (omega (arith, fresh_refill p c l, A.period_whole c h)) (omega (arith, fresh_refill p c l))
          (λ k m o. rw (fresh_task p k (omega (arith, A.tasks_most))) (idle_section p))
          (fresh_used p c l)

      none : (c : ℕ) → c < most_subsystems → p.subsystems ≤ c → NoCounts (fresh p) c
      none c l h = (fresh_left_lem p c l ∙ A.no_budget c l h, fresh_refill p c l ∙ A.no_period c l h, fresh_used p c l)
