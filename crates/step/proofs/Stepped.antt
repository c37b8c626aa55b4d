-- "Events": every event leaves a legal state legal, refusals too.
use mathlib.Core.Path.{◌≡◌}
use mathlib.Core.Bool.{true, false}
use Prim.Native.Nat.{ℕ, ◌≤◌, ◌<◌}
use Rattle.plan.specs.declared.Plan.{Plan}
use Rattle.plan.specs.Plan.{owner, is_global}
use Rattle.plan.specs.Facts.{Accepted}
use Rattle.state.specs.declared.State.{State}
use Rattle.state.specs.State.{task_at, left_of, in_section, section_left}
use Rattle.state.specs.Update.{with_task, with_used, waiting_for, giving_back}
use Rattle.state.specs.Sized.{Sized}
use Rattle.legal.specs.Facts.{Legal}
use Rattle.choice.proofs.Running.{running_takes, running_going}
use Rattle.step.specs.Refusals.{release, lock, unlock, end, refusal}
use Rattle.step.specs.Events.{released, length_fits_budget, with_taken, ended_task}
use Rattle.step.specs.Step.{stepped}
use Rattle.step.proofs.Kept.{Kept}
use Rattle.step.proofs.Taking.{length_fits_lem, taken_kept, waiting_kept}
use Rattle.step.proofs.Freed.{released_kept, unlocked_local_kept, unlocked_global_kept, ended_kept}
use Rattle.step.proofs.Refusals.{lock_passed, unlock_passed, end_passed, release_passed}
use Rattle.step.proofs.Cases.{stepped_cases}
use Rattle.step.proofs.Ticked.{ticked_kept}

module _ (p : Plan) (s : State) (A : Accepted p) (S : Kept p s) (k r : ℕ) where
  -- release
  release_kept : refusal p s release k r ≡ 0 → Kept p (released s k)
  release_kept e =
      let P = release_passed p s k r e in
      released_kept p s A S k P.0 P.1

  -- end
  end_kept : refusal p s end k r ≡ 0 → Kept p (ended_task s k)
  end_kept e =
      let P = end_passed p s k r e in
      ended_kept p s A S k P.there P.free

  -- unlock of a local
  unlock_local_kept : refusal p s unlock k r ≡ 0 → is_global p r ≡ false → Kept p (with_task s k (giving_back (task_at s k)))
  unlock_local_kept e g =
      let P = unlock_passed p s k r e in
      unlocked_local_kept p s A S k P.there (running_going p s A k P.there P.runs) P.some (rw P.last g)

  -- unlock of a global
  unlock_global_kept : refusal p s unlock k r ≡ 0 → is_global p r ≡ true → Kept p (with_used (with_task s k (giving_back (task_at s k))) (owner p k) 0)
  unlock_global_kept e g =
      let P = unlock_passed p s k r e in
      unlocked_global_kept p s A S k P.there (running_going p s A k P.there P.runs) P.some (rw P.last g)

  -- lock, taken
  take_kept : refusal p s lock k r ≡ 0 → (is_global p r ≡ true → length_fits_budget p s k r ≡ true) → Kept p (with_taken s k r)
  take_kept e f =
      let P = lock_passed p s k r e in
      taken_kept p s A S k (running_takes p s A k P.there P.runs) P.outside r P.resource P.declared P.room P.free (λ g. length_fits_lem p s k r (f g))

  -- lock, waiting
  wait_kept : refusal p s lock k r ≡ 0 → is_global p r ≡ true → Kept p (with_task s k (waiting_for (task_at s k) r))
  wait_kept e g =
      let P = lock_passed p s k r e in
      waiting_kept p s A S k (running_takes p s A k P.there P.runs) P.outside r P.resource P.declared P.room g

  -- any event
  pub stepped_kept : (kind : ℕ) → Kept p (stepped p s kind k r).state
  stepped_kept kind =
      stepped_cases p s kind k r (Kept p)
      (record {
        kept = S;
        on_release = release_kept;
        on_take = take_kept;
        on_wait = wait_kept;
        on_unlock_local = unlock_local_kept;
        on_unlock_global = unlock_global_kept;
        on_end = end_kept;
        on_tick = λ e. ticked_kept p s A S;
      })

module _ (p : Plan) (s : State) (A : Accepted p) (Z : Sized s) (L : Legal p s) where
  -- the state after an event is legal
  pub stepped_legal : (kind k r : ℕ) → Legal p (stepped p s kind k r).state
  stepped_legal kind k r = (stepped_kept p s A (record { sized = Z; legal = L }) k r kind).legal

  -- and has lists of the right lengths
  pub stepped_sized : (kind k r : ℕ) → Sized (stepped p s kind k r).state
  stepped_sized kind k r = (stepped_kept p s A (record { sized = Z; legal = L }) k r kind).sized

-- Invariant 1 of source 001: budget left is never below section length left
pub invariant_1 : (p : Plan) (s : State) → Legal p s → (k : ℕ) → k < p.tasks → in_section p (task_at s k) ≡ true → (section_left p s k).0 ≤ (left_of s (owner p k)).0
invariant_1 p s L = L.left_enough
