-- A tick and what holds a row back, while a row at least as high is busy: it grows no further, and where a lower row is charged it falls.
use mathlib.Core.Path.{◌≡◌, refl, sym, ap, ◌∙◌}
use mathlib.Core.Logic.{◌≢◌, ◌⊎◌, inl, inr, ⊎_elim}
use mathlib.Core.Bool.{Bool, true, false, ◌&&◌}
use Prim.Native.Nat.{ℕ, ◌+◌, ◌≤◌, ◌<◌}
use native.Mathlib.Nat.{le_refl, le_trans, le_of_eq}
use native.Mathlib.Omega.{arith}
use lib.Dec.{eqb}
use borrow.Author.Tests.{eqb-true, eqb-false}
use Rattle.below.proofs.Tests.{decided, clash, fails, conjuncts}
use Rattle.plan.specs.declared.Plan.{Plan}
use Rattle.plan.specs.Limits.{most_subsystems, most_tasks, no_row}
use Rattle.plan.specs.Plan.{owner, length_of, level}
use Rattle.plan.specs.Facts.{Accepted}
use Rattle.plan.proofs.Facts.{row_there}
use Rattle.state.specs.declared.Task.{Task}
use Rattle.state.specs.declared.State.{State}
use Rattle.state.specs.State.{task_at, used_of, is_waiting, last_held, in_section, section_left}
use Rattle.state.specs.Update.{with_task, with_used, started}
use Rattle.state.specs.Sized.{Sized}
use Rattle.state.proofs.Update.{held_sized, task_at_with_task, task_at_with_task_other, used_of_with_task, sized_with_task, task_at_with_used, used_of_with_used, used_of_with_used_other}
use Rattle.state.proofs.TaskUpdate.{started_section, started_last, started_sized, taking_sized}
use Rattle.legal.proofs.Tasks.{section_engaged}
use Rattle.legal.proofs.Parts.{legal_tasks}
use Rattle.legal.proofs.Changed.{OthersOutside, engaged_others}
use Rattle.choice.specs.Choice.{chosen, taken, runs, chosen_task}
use Rattle.choice.proofs.Taken.{Takes, taken_cases}
use Rattle.choice.proofs.Running.{runs_going}
use Rattle.choice.proofs.ChosenFacts.{Chosen, by_level, by_holding, nobody, chosen_cases, ByHolding, holder_taken}
use Rattle.step.specs.declared.Outcome.{Outcome}
use Rattle.step.specs.Events.{length_fits_budget, with_taken}
use Rattle.step.specs.Tick.{Shut, shut_spent, given_waited, ran, refilled, tick_in, tick_idle, tick_after, ticked}
use Rattle.step.specs.Strict.{strict_of}
use Rattle.step.proofs.Kept.{Kept}
use Rattle.step.proofs.Pays.{Paid, Pays, given_in, runs_in}
use Rattle.step.proofs.Charged.{ran_inside, ran_outside, ran_nobody}
use Rattle.step.proofs.Refilled.{refilled_tasks, refilled_used}
use Rattle.step.proofs.Spent.{Unspent, shut_unspent}
use Rattle.step.proofs.Waited.{unspent_unused, given_nobody}
use Rattle.step.proofs.Still.{shut_still}
use Rattle.step.proofs.Ticked.{given_kept, chosen_pays}
use Rattle.step.proofs.Strict.{HoldsBack}
use Rattle.step.proofs.Lowers.{Lowers, strict_less, strict_falls, change_lowers}
use Rattle.step.proofs.HeldBack.{Pressed, pressed_still, taker_strict, shut_strict}

-- where no task and no used count changed
same_strict : (p : Plan) (s u : State) (row : ℕ) → ((k : ℕ) → task_at u k ≡ task_at s k) → ((c : ℕ) → used_of u c ≡ used_of s c) → strict_of p u row ≤ strict_of p s row
same_strict p s u row tasks used =
    strict_less p s u row (λ k h v i. record { inside = rw (tasks k) at i; last = ap last_held (tasks k); used = le_of_eq (sym (used (owner p k))) })

-- (d)

refilled_strict : (p : Plan) (s : State) (row : ℕ) → strict_of p (refilled p s) row ≤ strict_of p s row
refilled_strict p s row = same_strict p s (refilled p s) row (refilled_tasks p s) (refilled_used p s)

refilled_falls : (p : Plan) (s : State) (row n : ℕ) → strict_of p s row + 1 ≤ n → strict_of p (refilled p s) row + 1 ≤ n
refilled_falls p s row n l = omega (arith, refilled_strict p s row)

-- (c): a task that runs uses one tick of its section, and opens none
module _ (p : Plan) (s : State) (Z : Sized s) (row k : ℕ) (there : k < p.tasks) (most : k < most_tasks) where
  -- the task, started
  t : Task
  t = started (task_at s k)

  -- it stands there
  at_k : task_at (with_task s k t) k ≡ t
  unfolding t
  at_k = task_at_with_task s k t Z most (started_sized (task_at s k) (held_sized s k))

  -- outside sections
  outside_lowers : in_section p (task_at s k) ≡ false → Lowers p s (with_task s k t) row
  unfolding t
  outside_lowers out =
      change_lowers p s (with_task s k t) k row (task_at_with_task_other s k t) (λ d n. used_of_with_task s k t d) (inr (used_of_with_task s k t (owner p k)))
      (λ v i. absurd (clash (rw at_k at i) (started_section (task_at s k) p ∙ out)))

  module _ (i : in_section p (task_at s k) ≡ true) (others : OthersOutside p s k (owner p k)) (c_most : owner p k < most_subsystems) where
    -- inside one
    u : State
    u = with_used (with_task s k t) (owner p k) (used_of s (owner p k) + 1)

    -- the same one
    u_last : last_held (task_at u k) ≡ last_held (task_at s k)
    unfolding u t
    u_last = ap last_held (task_at_with_used (with_task s k t) (owner p k) _ k ∙ at_k) ∙ started_last (task_at s k)

    -- with one tick more used
    u_used : used_of u (owner p k) ≡ used_of s (owner p k) + 1
    unfolding u t
    u_used = used_of_with_used (with_task s k t) (owner p k) _ (sized_with_task s k t Z) c_most

    -- nothing else changed
    inside_lowers : Lowers p s u row
    unfolding u
    inside_lowers =
        change_lowers p s u k row (λ j n. task_at_with_used (with_task s k t) (owner p k) _ j ∙ task_at_with_task_other s k t j n)
        (λ d n. used_of_with_used_other (with_task s k t) (owner p k) _ d n ∙ used_of_with_task s k t d)
        (inl others)
        (λ v w. record { inside = i; last = u_last; used = omega (arith, u_used) })

    -- where it holds row back, for one tick less
    inside_falls : HoldsBack p s row k → used_of s (owner p k) < length_of p k (last_held (task_at s k)) → strict_of p u row + 1 ≤ strict_of p s row
    unfolding section_left
    inside_falls H more = strict_falls p s u row inside_lowers k there H (rw (u_last, u_used) (omega arith))

-- (c) whole: c is charged and k runs, if it is there
module _ (p : Plan) (s : State) (A : Accepted p) (S : Kept p s) (c row : ℕ) (v : State) (Q : Paid s c v) where
  -- the charge alone
  charged_strict : strict_of p v row ≤ strict_of p s row
  charged_strict = same_strict p s v row Q.tasks Q.used

  -- what the task says after the charge
  charged_inside : (k : ℕ) (b : Bool) → in_section p (task_at s k) ≡ b → in_section p (task_at v k) ≡ b
  charged_inside k b e = ap (in_section p) (Q.tasks k) ∙ e

  -- the others after the charge
  charged_others : (k : ℕ) → k < p.tasks → in_section p (task_at s k) ≡ true → OthersOutside p v k (owner p k)
  charged_others k h i j l o n =
      charged_inside j false (engaged_others p s (legal_tasks p s S.legal) k (owner p k) h refl (section_engaged p (task_at s k) i) j l o n)

  module _ (k : ℕ) (h : k < p.tasks) where
    -- a row of the list
    k_most : k < most_tasks
    k_most = omega (arith, A.tasks_most)

    -- and its subsystem
    c_most : owner p k < most_subsystems
    c_most = omega (arith, A.owner_there k h, A.subsystems_most)

    -- the running task is inside a section
    ran_inside_strict : in_section p (task_at s k) ≡ true → strict_of p (ran p v k) row ≤ strict_of p s row
    unfolding u t
    ran_inside_strict i =
        rw (ran_inside p v k h (charged_inside k true i))
        (le_trans (strict_less p v _ row (inside_lowers p v Q.sized row k h k_most (charged_inside k true i) (charged_others k h i) c_most)) charged_strict)

    -- or outside
    ran_outside_strict : in_section p (task_at s k) ≡ false → strict_of p (ran p v k) row ≤ strict_of p s row
    unfolding t
    ran_outside_strict o =
        rw (ran_outside p v k h (charged_inside k false o))
        (le_trans (strict_less p v _ row (outside_lowers p v Q.sized row k h k_most (charged_inside k false o))) charged_strict)

    -- the running task holds row back
    ran_falls : HoldsBack p s row k → used_of s (owner p k) < length_of p k (last_held (task_at s k)) → strict_of p (ran p v k) row + 1 ≤ strict_of p s row
    unfolding u t
    ran_falls H more =
        let i = charged_inside k true H.inside in
        let q = Q.tasks k in
        rw (ran_inside p v k h i)
        (le_trans
        (inside_falls p v Q.sized row k h k_most i (charged_others k h H.inside) c_most
        (record { inside = i; lower = H.lower; reaches = rw q H.reaches })
        (rw (q, Q.used (owner p k)) more))
        charged_strict)

  -- either, or nobody runs
  ran_strict : (k : ℕ) → strict_of p (ran p v k) row ≤ strict_of p s row
  ran_strict k = go (row_there k p.tasks) (decided (in_section p (task_at s k)))
    where
      go : (k < p.tasks) ⊎ (p.tasks ≤ k) → (in_section p (task_at s k) ≡ true) ⊎ (in_section p (task_at s k) ≡ false) → strict_of p (ran p v k) row ≤ strict_of p s row
      go (inl h) (inl i) = ran_inside_strict k h i
      go (inl h) (inr o) = ran_outside_strict k h o
      go (inr h) i = rw (ran_nobody p v k h) charged_strict

-- (b) does nothing for a task that does not wait
given_going : (p : Plan) (s : State) (k : ℕ) → is_waiting (task_at s k) ≡ false → given_waited p s k ≡ s
unfolding given_waited
given_going p s k w = rw (w, given_waited)

-- (b) to (d) with nothing used up
module _ (p : Plan) (s : State) (A : Accepted p) (U : Unspent p s) (row : ℕ) (P : Pressed p s row) where
  -- (b)
  given_strict : strict_of p (given_waited p s (taken p s (chosen p s))) row ≤ strict_of p s row
  unfolding given_waited with_taken
  given_strict = ⊎_elim (λ e. rw (e.0, given_nobody p s U.kept.sized) (le_refl _)) some (taken_cases p s (chosen p s))
    where
      k : ℕ
      k = taken p s (chosen p s)

      some : Takes p (task_at s) (chosen p s) k → strict_of p (given_waited p s k) row ≤ strict_of p s row
      some K = go (is_waiting (task_at s k) && length_fits_budget p s k (task_at s k).waits) refl
        where
          go : (b : Bool) → (is_waiting (task_at s k) && length_fits_budget p s k (task_at s k).waits) ≡ b
              → strict_of p (elim b [ true ↦ with_taken s k (task_at s k).waits | false ↦ s ]) row ≤ strict_of p s row
          go true e = taker_strict p s A U.kept row P k K ((U.kept.legal.task k K.there).waiting (search conjuncts)).outside _ (taking_sized (task_at s k) _ (held_sized s k))
          go false e = le_refl _

  -- a row of larger level that is chosen all the same holds the global at the system ceiling
  lower_holds : level p row < level p (chosen p s) → chosen p s ≢ no_row → ByHolding p s (chosen p s)
  lower_holds low n = go (chosen_cases p s A U.kept.legal)
    where
      go : Chosen p s (chosen p s) → ByHolding p s (chosen p s)
      go (by_level B) = absurd (omega (arith, B.highest P.by P.there P.busy, P.high))
      go (by_holding H) = H
      go (nobody N) = absurd (n N.none)

  -- its task runs, and takes a tick from what holds row back
  holder_falls : level p row < level p (chosen p s) → (H : ByHolding p s (chosen p s)) → (v : State) → Paid (given_waited p s H.holder) (chosen p s) v
      → strict_of p (ran p v (runs (given_waited p s H.holder) H.holder)) row + 1 ≤ strict_of p s row
  unfolding chosen_task
  holder_falls low H v Q =
      rw (given_going p s j going, runs_going s j going)
      (ran_falls p s A U.kept (chosen p s) row v (rw (given_going p s j going) at Q) j H.there
      (record { inside = H.inside; lower = rw H.owned low; reaches = le_trans (H.not_below P.by P.there P.busy) P.high })
      (rw taken_j at (unspent_unused p s U.unspent) H.inside))
    where
      j : ℕ
      j = H.holder

      going : is_waiting (task_at s j) ≡ false
      going = fails _ (λ w. clash H.inside ((U.kept.legal.task j H.there).waiting w).outside)

      taken_j : taken p s (chosen p s) ≡ j
      taken_j = holder_taken p s U.kept.legal (chosen p s) H

-- what an outcome does to what holds row back
pub record Eases (p : Plan) (s : State) (row : ℕ) (o : Outcome) : Type 0 where
  pub less : strict_of p o.state row ≤ strict_of p s row
  pub falls : o.subsystem < p.subsystems → level p row < level p o.subsystem → strict_of p o.state row + 1 ≤ strict_of p s row

module _ (p : Plan) (x : Shut) (A : Accepted p) (U : Unspent p x.state) (row : ℕ) (P : Pressed p x.state row) where
  -- a subsystem is chosen
  in_eases : chosen p x.state ≢ no_row → Eases p x.state row (tick_in p x (chosen p x.state))
  unfolding tick_in
  in_eases n =
      record {
        less =
            rw L.after
            (le_trans (refilled_strict p _ row)
            (le_trans (ran_strict p _ A (given_kept p x.state A U) c row _ L.pays _) (given_strict p x.state A U row P)));
        falls = λ h low. rw L.after (refilled_falls p _ row _ (fall low (lower_holds p x.state A U row P low n) L.paid L.pays));
      }
    where
      c : ℕ
      c = chosen p x.state

      L : Pays p x c
      L = chosen_pays p x A U n

      fall : level p row < level p c → ByHolding p x.state c → (v : State) → Paid (given_in p x c) c v → strict_of p (ran p v (runs_in p x c)) row + 1 ≤ strict_of p x.state row
      fall low H v Q =
          let e = holder_taken p x.state U.kept.legal c H in
          rw e (holder_falls p x.state A U row P low H v (rw e at Q))

  -- none is
  idle_eases : chosen p x.state ≡ no_row → Eases p x.state row (tick_idle p x)
  unfolding tick_idle
  idle_eases e = record { less = refilled_strict p x.state row; falls = λ h. absurd (omega (arith, A.subsystems_most)) }

  -- either
  after_eases : Eases p x.state row (tick_after p x)
  unfolding tick_after
  after_eases = go (eqb (chosen p x.state) no_row) refl
    where
      go : (b : Bool) → eqb (chosen p x.state) no_row ≡ b → Eases p x.state row (elim b [ true ↦ tick_idle p x | false ↦ tick_in p x (chosen p x.state) ])
      go true e = idle_eases (eqb-true _ _ e)
      go false e = in_eases (eqb-false _ _ e)

-- a tick
pub ticked_eases : (p : Plan) (s : State) → Accepted p → Kept p s → (row : ℕ) → Pressed p s row → Eases p s row (ticked p s)
unfolding ticked
ticked_eases p s A S row P =
    let x = shut_spent p s in
    let E = after_eases p x A (shut_unspent p A s S) row (pressed_still p s x.state row (shut_still p s) P) in
    let l = shut_strict p s A S row in
    record { less = le_trans E.less l; falls = λ h v. le_trans (E.falls h v) l }
