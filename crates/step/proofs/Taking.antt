-- "Events", lock and step (b): the task taken in the chosen subsystem takes a resource or is made to wait.
use mathlib.Core.Path.{◌≡◌, sym, ◌∙◌}
use mathlib.Core.Logic.{◌⊎◌, inl, inr}
use mathlib.Core.Bool.{true, false}
use Prim.Native.Nat.{ℕ, ◌≤◌, ◌<◌}
use native.Mathlib.Omega.{arith}
use lib.ListN.{length}
use borrow.Author.Tests.{leb-true}
use Rattle.below.proofs.Tests.{decided, clash, fails}
use Rattle.plan.specs.declared.Plan.{Plan}
use Rattle.plan.specs.Plan.{owner, is_global, length_of, declares}
use Rattle.plan.specs.Facts.{Accepted}
use Rattle.state.specs.declared.Task.{Task}
use Rattle.state.specs.declared.State.{State}
use Rattle.state.specs.State.{most_held, task_at, left_of, holds, in_section}
use Rattle.state.specs.Update.{with_task, waiting_for, taking}
use Rattle.state.proofs.Update.{held_sized}
use Rattle.state.proofs.TaskUpdate.{taking_last, taking_section, taking_sized, waiting_for_section, waiting_for_last, waiting_for_sized}
use Rattle.legal.specs.Facts.{TaskLegal}
use Rattle.legal.proofs.TaskKept.{taking_legal, waiting_for_legal}
use Rattle.legal.proofs.Tasks.{section_engaged, holds_place, global_section}
use Rattle.legal.proofs.Parts.{Under, Tasks, legal_tasks}
use Rattle.legal.proofs.Counts.{SameSection}
use Rattle.legal.proofs.Replaced.{Fits}
use Rattle.choice.specs.Choice.{chosen}
use Rattle.choice.proofs.Taken.{Takes, takes_engaged}
use Rattle.choice.proofs.ChosenFacts.{ByLevel, Chosen, by_level, by_holding, nobody, chosen_cases}
use Rattle.step.specs.Events.{length_fits_budget, with_taken}
use Rattle.step.proofs.Fitting.{same_crosses, takes_fits, takes_others}
use Rattle.step.proofs.Kept.{Kept, task_kept, opened_kept}

-- who holds no global holds none
pub outside_free : (p : Plan) (k : ℕ) (t : Task) (r : ℕ) → TaskLegal p k t → in_section p t ≡ false → is_global p r ≡ true → holds t r ≡ false
outside_free p k t r T out g =
    fails _ (λ e. let w = holds_place t r e in clash (global_section p k t T w.place w.within (rw w.is g)).0 out)

-- a length that fits is at most the budget left
pub length_fits_lem : (p : Plan) (s : State) (k r : ℕ) → length_fits_budget p s k r ≡ true → length_of p k r ≤ (left_of s (owner p k)).0
unfolding length_fits_budget
length_fits_lem p s k r e = omega (arith, leb-true)

module _ (p : Plan) (s : State) (A : Accepted p) (S : Kept p s) (k : ℕ) (K : Takes p (task_at s) (chosen p s) k) (out : in_section p (task_at s k) ≡ false) where
  -- the tasks, as legal
  T : Tasks p (task_at s)
  T = legal_tasks p s S.legal

  -- a subsystem whose task is outside sections was chosen by its level
  pub outside_by_level : ByLevel p s (chosen p s)
  outside_by_level = go (chosen_cases p s A S.legal)
    where
      go : Chosen p s (chosen p s) → ByLevel p s (chosen p s)
      go (by_level B) = B
      go (by_holding H) =
          let q = takes_engaged p (task_at s) (chosen p s) k T K H.holder H.there H.owned (section_engaged p (task_at s H.holder) H.inside) in
          absurd (clash H.inside (rw q at out))
      go (nobody N) = absurd (omega (arith, K.owned, N.none, A.owner_there k K.there, A.subsystems_most))

  -- so it lies below the ceiling of every held global
  pub outside_under : (j : ℕ) → j < p.tasks → in_section p (task_at s j) ≡ true → Under p k (task_at s j)
  outside_under j l i = rw K.owned (outside_by_level.under j l i)

  -- the task has its four places
  size : length (task_at s k).held ≡ most_held
  size = held_sized s k

  -- the other tasks of the subsystem are outside sections
  others : (j : ℕ) → j < p.tasks → owner p j ≡ owner p k → (j ≡ k → ⊥) → in_section p (task_at s j) ≡ false
  others j l q n = takes_others p s T k (chosen p s) K j l (q ∙ K.owned) n

  module _ (r : ℕ) (there : r < p.resources) (declared : declares p k r ≡ true) (room : (task_at s k).count < most_held) where
    -- the task before
    legal_before : TaskLegal p k (task_at s k)
    legal_before = S.legal.task k K.there

    -- it takes the resource: a local one, or a global one whose length is at most the budget left
    pub taken_kept : holds (task_at s k) r ≡ false → (is_global p r ≡ true → length_of p k r ≤ (left_of s (owner p k)).0) → Kept p (with_taken s k r)
    unfolding with_taken
    taken_kept free enough = go (decided (is_global p r))
      where
        t : Task
        t = taking (task_at s k) r

        section : in_section p t ≡ is_global p r
        section = taking_section (task_at s k) r size room p

        F : Fits p (task_at s) k t
        F =
            takes_fits p (task_at s) T k (chosen p s) K t (taking_legal p k (task_at s k) legal_before r there declared out size room free)
            (λ i j l v n. inl (outside_under j l v))

        go : (is_global p r ≡ true) ⊎ (is_global p r ≡ false) → Kept p (with_task s k t)
        go (inl g) = opened_kept p s A S k K.there t (taking_sized (task_at s k) r size) F others out (section ∙ g) (rw (taking_last (task_at s k) r size room) (enough g))
        go (inr g) = task_kept p s A S k K.there t (taking_sized (task_at s k) r size) F (record { inside = section ∙ g ∙ sym out; last = λ i. absurd (clash i out) })

    -- it is made to wait
    pub waiting_kept : is_global p r ≡ true → Kept p (with_task s k (waiting_for (task_at s k) r))
    waiting_kept g = task_kept p s A S k K.there t (waiting_for_sized (task_at s k) r size) F same
      where
        t : Task
        t = waiting_for (task_at s k) r

        same : SameSection p (task_at s k) t
        same = record { inside = waiting_for_section (task_at s k) r p; last = λ i. waiting_for_last (task_at s k) r }

        F : Fits p (task_at s) k t
        F =
            takes_fits p (task_at s) T k (chosen p s) K t (waiting_for_legal p k (task_at s k) legal_before r there declared out g (omega arith))
            (same_crosses p (task_at s) k t T K.there same)
