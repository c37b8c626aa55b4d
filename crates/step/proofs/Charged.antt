-- "Events", step (c): the chosen subsystem is charged and its task runs. Inside a section budget left and section left fall together.
use mathlib.Core.Path.{◌≡◌, refl, ap, ◌∙◌}
use mathlib.Core.Logic.{◌⊎◌, inl, inr}
use mathlib.Core.Bool.{true, false}
use Prim.Native.Nat.{ℕ, ◌+◌, ◌-◌, ◌≤◌, ◌<◌}
use native.Mathlib.Omega.{arith}
use lib.ListN.{length}
use borrow.Author.Tests.{lt-ltb, le-ltb}
use Rattle.below.proofs.Tests.{decided}
use Rattle.plan.specs.declared.Plan.{Plan}
use Rattle.plan.specs.Limits.{most_subsystems, most_tasks, no_row}
use Rattle.plan.specs.Plan.{owner, length_of}
use Rattle.plan.specs.Facts.{Accepted}
use Rattle.state.specs.declared.Task.{Task}
use Rattle.state.specs.declared.State.{State}
use Rattle.state.specs.State.{most_held, task_at, left_of, refill_of, used_of, is_waiting, last_held, in_section}
use Rattle.state.specs.Update.{with_task, with_used, started}
use Rattle.state.specs.Sized.{Sized}
use Rattle.state.proofs.Update.{held_sized, task_at_with_task, task_at_with_task_other, left_of_with_task, refill_of_with_task, used_of_with_task, sized_with_task, used_of_with_used, used_of_with_used_other, sized_with_used}
use Rattle.state.proofs.TaskUpdate.{started_section, started_last, started_sized}
use Rattle.legal.proofs.TaskKept.{started_legal}
use Rattle.legal.proofs.Facts.{NoSection}
use Rattle.legal.proofs.Parts.{Tasks, legal_tasks, legal_counts}
use Rattle.legal.proofs.Counts.{SameSection, counts_out}
use Rattle.legal.proofs.Replaced.{Fits}
use Rattle.legal.proofs.Changed.{Changed, all_outside, inside_legal, outside_legal, counts_legal_lem}
use Rattle.choice.specs.Choice.{runs}
use Rattle.choice.proofs.Taken.{Takes}
use Rattle.choice.proofs.Running.{runs_waiting, runs_going, runs_nobody}
use Rattle.step.specs.Tick.{ran}
use Rattle.step.proofs.Fitting.{same_crosses, takes_fits, takes_others}
use Rattle.step.proofs.Kept.{Kept}
use Rattle.step.proofs.Pays.{Paid}

-- what running a task does, by cases

module _ (p : Plan) (s : State) (k : ℕ) where
  pub ran_inside : k < p.tasks → in_section p (task_at s k) ≡ true → ran p s k ≡ with_used (with_task s k (started (task_at s k))) (owner p k) (used_of s (owner p k) + 1)
  unfolding ran
  ran_inside h i = rw (lt-ltb k _ h, ran) (rw (started_section (task_at s k) p ∙ i))

  pub ran_outside : k < p.tasks → in_section p (task_at s k) ≡ false → ran p s k ≡ with_task s k (started (task_at s k))
  unfolding ran
  ran_outside h i = rw (lt-ltb k _ h, ran) (rw (started_section (task_at s k) p ∙ i))

  pub ran_nobody : p.tasks ≤ k → ran p s k ≡ s
  unfolding ran
  ran_nobody h = rw (le-ltb k _ h, ran)

module _ (p : Plan) (s : State) (A : Accepted p) (S : Kept p s) where
  -- the tasks, as legal
  T : Tasks p (task_at s)
  T = legal_tasks p s S.legal

  -- nobody runs, and there is no section
  pub paid_kept : (c : ℕ) → c < p.subsystems → (v : State) → Paid s c v → NoSection p s c → Kept p v
  paid_kept c h v Q n =
      record {
        sized = Q.sized;
        legal =
            counts_legal_lem p s v A S.legal c h Q.tasks Q.elsewhere
            (counts_out p v c (omega (arith, Q.left, S.legal.left_most c h))
            (omega (arith, Q.refill c, S.legal.refill_ahead c h))
            (omega (arith, Q.refill c, S.legal.refill_most c h))
            (λ k l o. rw (Q.tasks k) (n k l o))
            (Q.used c ∙ S.legal.unused c h n));
      }

  module _ (k : ℕ) (K : Takes p (task_at s) (owner p k) k) (v : State) (Q : Paid s (owner p k) v) where
    -- its subsystem
    c : ℕ
    c = owner p k

    -- a row of the list
    c_most : c < most_subsystems
    unfolding c
    c_most = omega (arith, A.owner_there k K.there, A.subsystems_most)

    -- a row of the list
    k_most : k < most_tasks
    k_most = omega (arith, K.there, A.tasks_most)

    -- the task, started
    t : Task
    t = started (task_at s k)

    -- its section stays
    same : SameSection p (task_at s k) t
    unfolding t
    same = record { inside = started_section (task_at s k) p; last = λ i. started_last (task_at s k) }

    -- it has its four places
    size : length t.held ≡ most_held
    unfolding t
    size = started_sized (task_at s k) (held_sized s k)

    -- it may stand there
    F : Fits p (task_at s) k t
    unfolding t c
    F = takes_fits p (task_at s) T k c K t (started_legal p k (task_at s k) (S.legal.task k K.there)) (same_crosses p (task_at s) k t T K.there same)

    -- charged and started
    u : State
    u = with_task v k t

    -- what is read there
    u_sized : Sized u
    unfolding u
    u_sized = sized_with_task v k t Q.sized

    u_task : task_at u k ≡ t
    unfolding u
    u_task = task_at_with_task v k t Q.sized k_most size

    u_left : (left_of u c).0 ≡ (left_of s c).0 - 1
    unfolding u c
    u_left = ap (λ q. q.0) (left_of_with_task v k t c) ∙ Q.left

    u_refill : (d : ℕ) → refill_of u d ≡ refill_of s d
    unfolding u
    u_refill d = refill_of_with_task v k t d ∙ Q.refill d

    u_used : (d : ℕ) → used_of u d ≡ used_of s d
    unfolding u
    u_used d = used_of_with_task v k t d ∙ Q.used d

    u_changed : Changed s u k c
    unfolding u c
    u_changed =
        record {
          others = λ j n. task_at_with_task_other v k t j n ∙ Q.tasks j;
          elsewhere = λ d n.
              record { left = ap (λ q. q.0) (left_of_with_task v k t d) ∙ (Q.elsewhere d n).left; refill = u_refill d; used = u_used d };
        }

    -- the running task is outside sections
    outside_kept : in_section p (task_at s k) ≡ false → Kept p u
    unfolding c
    outside_kept out =
        let others = takes_others p s T k c K in
        record {
          sized = u_sized;
          legal =
              outside_legal p s u A S.legal k c K.there refl u_changed (rw u_task F) (omega (arith, u_left)) (u_refill c) others
              (rw u_task (same.inside ∙ out))
              (u_used c ∙ S.legal.unused c (A.owner_there k K.there) (all_outside p s k c others out));
        }

    -- the running task is inside one that is not used up
    inside_kept : in_section p (task_at s k) ≡ true → used_of s c < length_of p k (last_held (task_at s k)) → Kept p (with_used u c (used_of s c + 1))
    unfolding c with_used task_at left_of refill_of
    inside_kept i more =
        let used = used_of_with_used u c (used_of s c + 1) u_sized c_most in
        let last = ap last_held u_task ∙ same.last i in
        let enough = (legal_counts p s S.legal c (A.owner_there k K.there)).left_enough k K.there refl i in
        record {
          sized = sized_with_used u c (used_of s c + 1) u_sized;
          legal =
              inside_legal p s (with_used u c (used_of s c + 1)) A S.legal k c K.there refl changed (rw u_task F) (omega (arith, u_left)) (u_refill c)
              (rw u_task (same.inside ∙ i)) (rw (used, last) (omega arith)) (rw (used, last) (omega (arith, u_left)));
        }
      where
        changed : Changed s (with_used u c (used_of s c + 1)) k c
        changed =
            record {
              others = u_changed.others;
              elsewhere = λ d n.
                  record {
                    left = (u_changed.elsewhere d n).left;
                    refill = u_refill d;
                    used = used_of_with_used_other u c (used_of s c + 1) d n ∙ u_used d;
                  };
            }

    -- inside or outside
    pub run_kept : (in_section p (task_at s k) ≡ true → used_of s (owner p k) < length_of p k (last_held (task_at s k))) → Kept p (ran p v k)
    unfolding u t c
    run_kept more = go (decided (in_section p (task_at s k)))
      where
        go : (in_section p (task_at s k) ≡ true) ⊎ (in_section p (task_at s k) ≡ false) → Kept p (ran p v k)
        go (inl i) = rw (ran_inside p v k K.there (ap (in_section p) (Q.tasks k) ∙ i), Q.tasks k, Q.used (owner p k)) (inside_kept i (more i))
        go (inr o) = rw (ran_outside p v k K.there (ap (in_section p) (Q.tasks k) ∙ o), Q.tasks k) (outside_kept o)

-- (c) whole: k is the task taken in c, or no row where c has no section
module _ (p : Plan) (s : State) (A : Accepted p) (S : Kept p s) (c : ℕ) (h : c < p.subsystems) (v : State) (Q : Paid s c v) where
  -- nobody runs
  idle_run_kept : (k : ℕ) → runs s k ≡ no_row → NoSection p s c → Kept p (ran p v (runs s k))
  idle_run_kept k e n = rw (e, ran_nobody p v no_row (omega (arith, A.tasks_most))) (paid_kept p s A S c h v Q n)

  -- no task is taken
  pub nobody_run_kept : (k : ℕ) → k ≡ no_row → NoSection p s c → Kept p (ran p v (runs s k))
  nobody_run_kept k e n = idle_run_kept k (rw e (runs_nobody s)) n

  -- one is
  pub task_run_kept : (k : ℕ) → Takes p (task_at s) c k → (in_section p (task_at s k) ≡ true → used_of s c < length_of p k (last_held (task_at s k)))
      → Kept p (ran p v (runs s k))
  task_run_kept k K more = go (decided (is_waiting (task_at s k)))
    where
      go : (is_waiting (task_at s k) ≡ true) ⊎ (is_waiting (task_at s k) ≡ false) → Kept p (ran p v (runs s k))
      go (inl w) =
          idle_run_kept k (runs_waiting s k w)
          (all_outside p s k c (takes_others p s (legal_tasks p s S.legal) k c K) ((S.legal.task k K.there).waiting w).outside)
      go (inr w) = rw (runs_going s k w) (run_kept p s A S k (rw K.owned K) v (rw K.owned Q) (rw K.owned more))
