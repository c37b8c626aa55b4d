-- "Events", release, unlock, end and step (a): a task that holds no more than before takes its own place.
use mathlib.Core.Path.{◌≡◌, sym, ◌∙◌}
use mathlib.Core.Bool.{true, false}
use Prim.Native.Nat.{ℕ, ◌≤◌, ◌<◌}
use native.Mathlib.Omega.{arith}
use lib.ListN.{length}
use Rattle.below.proofs.Tests.{clash, fails, or_left}
use Rattle.plan.specs.declared.Plan.{Plan}
use Rattle.plan.specs.Plan.{owner, is_global}
use Rattle.plan.specs.Facts.{Accepted}
use Rattle.state.specs.declared.Task.{Task}
use Rattle.state.specs.declared.State.{State}
use Rattle.state.specs.State.{most_held, idle_task, task_at, is_idle, is_waiting, last_held, in_section}
use Rattle.state.specs.Update.{with_task, with_used, readied, giving_back}
use Rattle.state.proofs.Update.{held_sized}
use Rattle.state.proofs.TaskUpdate.{readied_section, readied_last, readied_sized, giving_back_sized, idle_section, idle_sized}
use Rattle.legal.specs.Facts.{TaskLegal}
use Rattle.legal.proofs.TaskKept.{readied_legal, giving_back_legal, giving_back_section}
use Rattle.legal.proofs.Tasks.{holder_section, section_count}
use Rattle.legal.proofs.Parts.{legal_tasks}
use Rattle.legal.proofs.Fresh.{idle_legal}
use Rattle.legal.proofs.Replaced.{Fits}
use Rattle.step.specs.Events.{released, ended_task}
use Rattle.step.proofs.Fitting.{Less, less_fits, readied_less, idle_less, giving_back_less}
use Rattle.step.proofs.Kept.{Kept, task_kept, closed_kept}

module _ (p : Plan) (s : State) (A : Accepted p) (S : Kept p s) (k : ℕ) (h : k < p.tasks) where
  -- the task before
  before : TaskLegal p k (task_at s k)
  before = S.legal.task k h

  -- it has its four places
  size : length (task_at s k).held ≡ most_held
  size = held_sized s k

  -- one that holds less may stand there
  fits : (t : Task) → TaskLegal p k t → Less p (task_at s k) t → Fits p (task_at s) k t
  fits t TL M = less_fits p (task_at s) (legal_tasks p s S.legal) k h t TL M

  -- an idle task becomes ready
  pub released_kept : is_idle (task_at s k) ≡ true → Kept p (released s k)
  unfolding released
  released_kept e =
      task_kept p s A S k h (readied (task_at s k)) (readied_sized (task_at s k) size)
      (fits (readied (task_at s k)) (readied_legal p k (task_at s k) before (before.resting (or_left _ _ e))) (readied_less p (task_at s k)))
      (record { inside = readied_section (task_at s k) p; last = λ i. readied_last (task_at s k) })

  -- a task that holds nothing becomes idle
  pub ended_kept : (task_at s k).count ≡ 0 → Kept p (ended_task s k)
  unfolding ended_task
  ended_kept z =
      task_kept p s A S k h idle_task idle_sized (fits idle_task (idle_legal p k) (idle_less p (task_at s k)))
      (record { inside = idle_section p ∙ sym out; last = λ i. absurd (clash i out) })
    where
      -- it is outside sections
      out : in_section p (task_at s k) ≡ false
      out = fails _ (λ i. omega (arith, section_count p k (task_at s k) before i))

  -- (a) a task inside a section is ended
  pub shut_kept : in_section p (task_at s k) ≡ true → Kept p (with_used (ended_task s k) (owner p k) 0)
  unfolding ended_task
  shut_kept i = closed_kept p s A S k h idle_task idle_sized (fits idle_task (idle_legal p k) (idle_less p (task_at s k))) i (idle_section p)

  -- the resource taken last is given back
  module _ (w : is_waiting (task_at s k) ≡ false) (some : 1 ≤ (task_at s k).count) where
    -- the task afterwards
    t : Task
    t = giving_back (task_at s k)

    out : in_section p t ≡ false
    unfolding t
    out = giving_back_section p k (task_at s k) before size some w

    -- it may stand there
    F : Fits p (task_at s) k t
    unfolding t
    F = fits t (giving_back_legal p k (task_at s k) before size some w) (giving_back_less p (task_at s k) out)

    -- it has its four places
    resized : length t.held ≡ most_held
    unfolding t
    resized = giving_back_sized (task_at s k) size

    -- it was inside one where the last was a global
    section : is_global p (last_held (task_at s k)) ≡ in_section p (task_at s k)
    section = sym (holder_section p (task_at s k) some)

    -- a global is given back
    pub unlocked_global_kept : is_global p (last_held (task_at s k)) ≡ true → Kept p (with_used (with_task s k (giving_back (task_at s k))) (owner p k) 0)
    unfolding t
    unlocked_global_kept g = closed_kept p s A S k h t resized F (sym section ∙ g) out

    -- a local is given back
    pub unlocked_local_kept : is_global p (last_held (task_at s k)) ≡ false → Kept p (with_task s k (giving_back (task_at s k)))
    unfolding t
    unlocked_local_kept g = task_kept p s A S k h t resized F (record { inside = out ∙ sym (sym section ∙ g); last = λ i. absurd (clash i (sym section ∙ g)) })
