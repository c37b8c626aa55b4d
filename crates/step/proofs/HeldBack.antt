-- While a row at least as high as a given one is busy, no event lets what holds that one back grow, and a tick that charges a lower row takes from it.
use mathlib.Core.Path.{◌≡◌, refl, sym, ap, ◌∙◌}
use mathlib.Core.Bool.{true, false}
use Prim.Native.Nat.{ℕ, ◌≤◌, ◌<◌}
use native.Mathlib.Nat.{le_refl, le_trans}
use native.Mathlib.Omega.{arith}
use Rattle.below.proofs.Tests.{clash}
use Rattle.plan.specs.declared.Plan.{Plan}
use Rattle.plan.specs.Plan.{owner, is_global, level}
use Rattle.plan.specs.Facts.{Accepted}
use Rattle.state.specs.declared.Task.{Task}
use Rattle.state.specs.declared.State.{State}
use lib.ListN.{length}
use Rattle.state.specs.State.{most_held, idle_task, task_at, left_of, in_section}
use Rattle.state.specs.Update.{with_task, with_used, readied, giving_back}
use Rattle.state.proofs.Update.{held_sized}
use Rattle.state.proofs.TaskUpdate.{readied_section, readied_last, readied_sized, idle_section, idle_sized, taking_sized, waiting_for_sized, giving_back_sized}
use Rattle.legal.proofs.TaskKept.{giving_back_section}
use Rattle.legal.proofs.Tasks.{section_engaged, holder_section}
use Rattle.legal.proofs.Parts.{legal_tasks}
use Rattle.legal.proofs.Changed.{engaged_others}
use Rattle.choice.specs.Choice.{chosen, chosen_task}
use Rattle.choice.proofs.Taken.{Takes}
use Rattle.choice.proofs.Running.{running_takes, running_going}
use Rattle.step.specs.Refusals.{release, lock, unlock, end, tick, refusal}
use Rattle.step.specs.Events.{released, with_taken, ended_task}
use Rattle.step.specs.Tick.{is_spent, shut_spent}
use Rattle.step.specs.Step.{stepped}
use Rattle.step.specs.Strict.{strict_of}
use Rattle.step.proofs.Kept.{Kept}
use Rattle.step.proofs.Freed.{shut_kept}
use Rattle.step.proofs.Taking.{outside_by_level}
use Rattle.step.proofs.Refusals.{lock_passed, unlock_passed, end_passed, release_passed}
use Rattle.step.proofs.Cases.{stepped_cases}
use Rattle.step.proofs.Turns.{shut_state, shut_case}
use Rattle.step.proofs.Spent.{section_takes, spent_inside}
use Rattle.step.proofs.Still.{Still}
use Rattle.step.proofs.Lowers.{task_strict, closed_strict}

-- a row at least as high as row is busy
pub record Pressed (p : Plan) (s : State) (row : ℕ) : Type 0 where
  pub by : ℕ
  pub there : by < p.subsystems
  pub high : level p by ≤ level p row
  pub busy : 0 < (left_of s by).0

-- so it is where no budget left changed
pub pressed_still : (p : Plan) (s u : State) (row : ℕ) → Still s u → Pressed p s row → Pressed p u row
pressed_still p s u row Q P = record { by = P.by; there = P.there; high = P.high; busy = rw (Q.left P.by) P.busy }

module _ (p : Plan) (s : State) (A : Accepted p) (S : Kept p s) (row : ℕ) where
  -- a task outside sections that is chosen then is not of larger level
  taker_high : Pressed p s row → (k : ℕ) → Takes p (task_at s) (chosen p s) k → in_section p (task_at s k) ≡ false → level p (owner p k) ≤ level p row
  taker_high P k K out = rw K.owned (le_trans ((outside_by_level p s A S k K out).highest P.by P.there P.busy) P.high)

  -- so what it takes or waits for holds row back no further
  pub taker_strict : Pressed p s row → (k : ℕ) → Takes p (task_at s) (chosen p s) k → in_section p (task_at s k) ≡ false → (t : Task)
      → length t.held ≡ most_held → strict_of p (with_task s k t) row ≤ strict_of p s row
  taker_strict P k K out t size =
      task_strict p s S.sized row k (omega (arith, K.there, A.tasks_most)) t size (λ v i. absurd (omega (arith, taker_high P k K out)))

  -- (a) one turn
  shut_one_strict : (k : ℕ) → k < p.tasks → in_section p (task_at s k) ≡ true → strict_of p (shut_state p s k) row ≤ strict_of p s row
  unfolding ended_task
  shut_one_strict k h i =
      closed_strict p s S.sized row k (omega (arith, A.tasks_most)) idle_task idle_sized
      (engaged_others p s (legal_tasks p s S.legal) k (owner p k) h refl (section_engaged p (task_at s k) i))
      (idle_section p)

  module _ (k r : ℕ) where
    -- release
    release_strict : refusal p s release k r ≡ 0 → strict_of p (released s k) row ≤ strict_of p s row
    unfolding released
    release_strict e =
        let P = release_passed p s k r e in
        task_strict p s S.sized row k (omega (arith, P.0, A.tasks_most)) (readied (task_at s k)) (readied_sized (task_at s k) (held_sized s k))
        (λ v i. (sym (readied_section (task_at s k) p) ∙ i, readied_last (task_at s k)))

    -- end
    end_strict : refusal p s end k r ≡ 0 → strict_of p (ended_task s k) row ≤ strict_of p s row
    unfolding ended_task
    end_strict e =
        let P = end_passed p s k r e in
        task_strict p s S.sized row k (omega (arith, P.there, A.tasks_most)) idle_task idle_sized (λ v i. absurd (clash i (idle_section p)))

    -- lock
    lock_strict : Pressed p s row → refusal p s lock k r ≡ 0 → (t : Task) → length t.held ≡ most_held → strict_of p (with_task s k t) row ≤ strict_of p s row
    lock_strict B e t size =
        let P = lock_passed p s k r e in
        taker_strict B k (running_takes p s A k P.there P.runs) P.outside t size

    -- nothing is left inside a section where the last resource is given back
    given_back_out : refusal p s unlock k r ≡ 0 → in_section p (giving_back (task_at s k)) ≡ false
    given_back_out e =
        let P = unlock_passed p s k r e in
        giving_back_section p k (task_at s k) (S.legal.task k P.there) (held_sized s k) P.some
        (running_going p s A k P.there P.runs)

    -- unlock of a local
    unlock_local_strict : refusal p s unlock k r ≡ 0 → strict_of p (with_task s k (giving_back (task_at s k))) row ≤ strict_of p s row
    unlock_local_strict e =
        let P = unlock_passed p s k r e in
        task_strict p s S.sized row k (omega (arith, P.there, A.tasks_most)) (giving_back (task_at s k)) (giving_back_sized (task_at s k) (held_sized s k)) (λ v i. absurd (clash i (given_back_out e)))

    -- unlock of a global
    unlock_global_strict : refusal p s unlock k r ≡ 0 → is_global p r ≡ true
        → strict_of p (with_used (with_task s k (giving_back (task_at s k))) (owner p k) 0) row ≤ strict_of p s row
    unlock_global_strict e g =
        let P = unlock_passed p s k r e in
        let i = holder_section p (task_at s k) P.some ∙ ap (is_global p) P.last ∙ g in
        closed_strict p s S.sized row k (omega (arith, P.there, A.tasks_most)) (giving_back (task_at s k)) (giving_back_sized (task_at s k) (held_sized s k))
        (engaged_others p s (legal_tasks p s S.legal) k (owner p k) P.there refl (section_engaged p (task_at s k) i))
        (given_back_out e)

-- (a) whole
pub shut_strict : (p : Plan) (s : State) → Accepted p → Kept p s → (row : ℕ) → strict_of p (shut_spent p s).state row ≤ strict_of p s row
shut_strict p s A S row = (shut_case p C one s (S, le_refl _)).1
  where
    C : State → Type 0
    C u = Kept p u × (strict_of p u row ≤ strict_of p s row)

    one : (u : State) → C u → is_spent p u ≡ true → C (shut_state p u (chosen_task p u))
    one u c e =
        let i = spent_inside p A u e in
        let h = (section_takes p u c.0.sized i).there in
        (shut_kept p u A c.0 (chosen_task p u) h i, le_trans (shut_one_strict p u A c.0 row (chosen_task p u) h i) c.1)

-- an event that is no tick
pub still_strict : (p : Plan) (s : State) → Accepted p → Kept p s → (row : ℕ) → Pressed p s row → (kind k r : ℕ) → (kind ≡ tick → ⊥)
    → strict_of p (stepped p s kind k r).state row ≤ strict_of p s row
unfolding with_taken
still_strict p s A S row P kind k r n =
    stepped_cases p s kind k r (λ u. strict_of p u row ≤ strict_of p s row)
    (record {
      kept = le_refl _;
      on_release = release_strict p s A S row k r;
      on_take = λ e f. lock_strict p s A S row k r P e _ (taking_sized (task_at s k) r (held_sized s k));
      on_wait = λ e g. lock_strict p s A S row k r P e _ (waiting_for_sized (task_at s k) r (held_sized s k));
      on_unlock_local = λ e g. unlock_local_strict p s A S row k r e;
      on_unlock_global = unlock_global_strict p s A S row k r;
      on_end = end_strict p s A S row k r;
      on_tick = λ e. absurd (n e);
    })
