-- "Events", step (b), in a state where nothing is used up: a waiting task whose length is at most the budget left takes its resource, which nobody holds.
use mathlib.Core.Path.{◌≡◌, refl, ap, ◌∙◌}
use mathlib.Core.Logic.{inl}
use mathlib.Core.Bool.{Bool, true, false, ◌&&◌}
use Prim.Native.Nat.{ℕ, ◌-◌, ◌<◌}
use native.Mathlib.Omega.{arith}
use lib.Dec.{eqb}
use borrow.Author.Tests.{eqb-true, eqb-false}
use Rattle.below.proofs.Tests.{clash, conjuncts, and_of}
use Rattle.plan.specs.declared.Plan.{Plan}
use Rattle.plan.specs.Limits.{most_tasks, no_row}
use Rattle.plan.specs.Plan.{owner, length_of, taken_before}
use Rattle.plan.specs.Facts.{Accepted}
use Rattle.plan.proofs.Order.{before_irrefl}
use Rattle.state.specs.declared.Task.{Task}
use Rattle.state.specs.declared.State.{State}
use lib.ListN.{length}
use Rattle.state.specs.State.{most_held, task_at, used_of, is_waiting, is_active, holds, last_held, in_section, section_left}
use Rattle.state.specs.Update.{with_task, taking}
use Rattle.state.specs.Sized.{Sized}
use Rattle.state.proofs.Update.{held_sized, task_at_past, task_at_with_task, task_at_with_task_other, used_of_with_task}
use Rattle.state.proofs.TaskUpdate.{idle_waiting, taking_active, taking_last, taking_sized}
use Rattle.legal.specs.Facts.{WaitLegal}
use Rattle.legal.proofs.Parts.{legal_tasks}
use Rattle.legal.proofs.Changed.{OthersOutside, all_outside}
use Rattle.choice.specs.Choice.{chosen, chosen_task}
use Rattle.choice.proofs.Taken.{Takes, taken_takes}
use Rattle.step.specs.Events.{length_fits_budget, with_taken}
use Rattle.step.specs.Tick.{is_spent, given_waited}
use Rattle.step.proofs.Fitting.{takes_others}
use Rattle.step.proofs.Kept.{Kept}
use Rattle.step.proofs.Taking.{length_fits_lem, outside_free, taken_kept}
use Rattle.step.proofs.Holders.{finds_free}

-- the section of task k, if it is inside one, is not used up
abbrev pub Unused : Plan → State → ℕ → Type 0
Unused p s k = in_section p (task_at s k) ≡ true → used_of s (owner p k) < length_of p k (last_held (task_at s k))

-- the chosen task's is not
pub unspent_unused : (p : Plan) (s : State) → is_spent p s ≡ false → Unused p s (chosen_task p s)
unfolding is_spent section_left
unspent_unused p s e i =
    let v : ¬ (length_of p (chosen_task p s) (last_held (task_at s (chosen_task p s))) - used_of s (owner p (chosen_task p s)) ≡ 0) = λ z. clash (and_of _ _ i (rw z)) e in
    omega arith

-- a task stays the one taken when it is replaced by an active one
pub takes_after : (p : Plan) (s : State) (c k : ℕ) (t : Task) → Sized s → k < most_tasks → length t.held ≡ most_held → is_active t ≡ true → Takes p (task_at s) c k → Takes p (task_at (with_task s k t)) c k
takes_after p s c k t Z h size a K =
    record {
      there = K.there;
      owned = K.owned;
      first = λ j l o v. go j l o v (eqb j k) refl;
      may = inl (rw (task_at_with_task s k t Z h size) a);
    }
  where
    go : (j : ℕ) → j < p.tasks → owner p j ≡ c → is_active (task_at (with_task s k t) j) ≡ true → (b : Bool) → eqb j k ≡ b → taken_before p j k ≡ false
    go j l o v true e = rw (eqb-true j k e) (before_irrefl p k)
    go j l o v false e = K.first j l o (rw (task_at_with_task_other s k t j (eqb-false j k e)) at v)

-- what (b) leaves behind for (c)
pub record Given (p : Plan) (s : State) (c k : ℕ) : Type 0 where
  pub kept : Kept p s
  pub takes : Takes p (task_at s) c k
  pub unused : Unused p s k

-- the chosen task, if it waits, is one that is there
pub waiting_takes : (p : Plan) (s : State) → Sized s → is_waiting (task_at s (chosen_task p s)) ≡ true → Takes p (task_at s) (chosen p s) (chosen_task p s)
unfolding chosen_task
waiting_takes p s Z w = taken_takes p s (chosen p s) (λ e. clash (rw (e, task_at_past s no_row Z (omega arith)) at w) idle_waiting)

-- (b) at the task taken in the chosen subsystem
module _ (p : Plan) (s : State) (A : Accepted p) (S : Kept p s) (k : ℕ) (K : Takes p (task_at s) (chosen p s) k) where
  -- what a waiting task says
  W : is_waiting (task_at s k) ≡ true → WaitLegal p k (task_at s k)
  W = (S.legal.task k K.there).waiting

  -- it does not hold what it waits for
  waited_free : is_waiting (task_at s k) ≡ true → holds (task_at s k) (task_at s k).waits ≡ false
  waited_free w = outside_free p k (task_at s k) (task_at s k).waits (S.legal.task k K.there) (W w).outside (W w).global

  -- and nobody else does
  pub waits_for_free : is_waiting (task_at s k) ≡ true → (j : ℕ) → j < p.tasks → holds (task_at s j) (task_at s k).waits ≡ false
  waits_for_free w = finds_free p s A S k (task_at s k).waits K (W w).outside (W w).declared (waited_free w)

  -- a task that takes what it waited for

  granted_kept : is_waiting (task_at s k) ≡ true → length_fits_budget p s k (task_at s k).waits ≡ true → Kept p (with_taken s k (task_at s k).waits)
  granted_kept w f =
      taken_kept p s A S k K (W w).outside (task_at s k).waits (W w).there (W w).declared (omega (arith, (W w).room)) (waited_free w) (λ g. length_fits_lem p s k _ f)

  granted_unused : is_waiting (task_at s k) ≡ true → Unused p (with_taken s k (task_at s k).waits) k
  unfolding with_taken
  granted_unused w i =
      let r = (task_at s k).waits in
      let e = ap last_held at_k ∙ taking_last (task_at s k) r (held_sized s k) (omega (arith, (W w).room)) in
      rw e (omega (arith, used_of_with_task s k (taking (task_at s k) r) (owner p k), none, A.global_length k r K.there (W w).there (W w).declared (W w).global))
    where
      k_most : k < most_tasks
      k_most = omega (arith, K.there, A.tasks_most)

      at_k : task_at (with_task s k (taking (task_at s k) (task_at s k).waits)) k ≡ taking (task_at s k) (task_at s k).waits
      at_k = task_at_with_task s k (taking (task_at s k) (task_at s k).waits) S.sized k_most (taking_sized (task_at s k) (task_at s k).waits (held_sized s k))

      others : OthersOutside p s k (owner p k)
      others j l o n = takes_others p s (legal_tasks p s S.legal) k (chosen p s) K j l (o ∙ K.owned) n

      none : used_of s (owner p k) ≡ 0
      none = S.legal.unused (owner p k) (A.owner_there k K.there) (all_outside p s k (owner p k) others (W w).outside)

  granted : is_waiting (task_at s k) ≡ true → length_fits_budget p s k (task_at s k).waits ≡ true → Given p (with_taken s k (task_at s k).waits) (chosen p s) k
  unfolding with_taken
  granted w f =
      record {
        kept = granted_kept w f;
        takes =
            takes_after p s (chosen p s) k (taking (task_at s k) (task_at s k).waits) S.sized (omega (arith, K.there, A.tasks_most))
            (taking_sized (task_at s k) (task_at s k).waits (held_sized s k))
            (taking_active (task_at s k) (task_at s k).waits) K;
        unused = granted_unused w;
      }

  pub given_after : Unused p s k → Given p (given_waited p s k) (chosen p s) k
  unfolding given_waited
  given_after more = go (is_waiting (task_at s k) && length_fits_budget p s k (task_at s k).waits) refl
    where
      go : (b : Bool) → (is_waiting (task_at s k) && length_fits_budget p s k (task_at s k).waits) ≡ b
          → Given p (elim b [ true ↦ with_taken s k (task_at s k).waits | false ↦ s ]) (chosen p s) k
      go true e = granted (search conjuncts) (search conjuncts)
      go false e = record { kept = S; takes = K; unused = more }

-- (b) with no task taken: nothing
pub given_nobody : (p : Plan) (s : State) → Sized s → given_waited p s no_row ≡ s
unfolding given_waited
given_nobody p s Z = rw (ap is_waiting (task_at_past s no_row Z (omega arith)) ∙ idle_waiting, given_waited)
