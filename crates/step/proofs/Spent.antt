-- "Events", step (a): while the chosen task holds a global whose length is used up, it is ended. Each turn closes a section, so the turns are enough.
use mathlib.Core.Path.{◌≡◌, refl}
use mathlib.Core.Logic.{◌≢◌}
use mathlib.Core.Bool.{Bool, true, false, ◌&&◌, cond}
use Prim.Native.Nat.{ℕ, zero, suc, ◌+◌, ◌≤◌, ◌<◌}
use native.Mathlib.Omega.{arith}
use lib.Dec.{eqb}
use borrow.Author.Tests.{eqb-true, eqb-false, eq-eqb}
use Rattle.below.specs.Below.{any, sum}
use Rattle.below.proofs.Search.{any_true, any_of, any_absent}
use Rattle.below.proofs.Amounts.{sum_at, sum_falls, sum_bounded}
use Rattle.below.proofs.Tests.{clash, fails, conjuncts, and_of}
use Rattle.plan.specs.declared.Plan.{Plan}
use Rattle.plan.specs.Limits.{no_row}
use Rattle.plan.specs.Plan.{owner}
use Rattle.plan.specs.Facts.{Accepted}
use Rattle.state.specs.declared.State.{State}
use Rattle.state.specs.State.{idle_task, task_at, in_section}
use Rattle.state.specs.Update.{with_task, with_used}
use Rattle.state.specs.Sized.{Sized}
use Rattle.state.proofs.Update.{task_at_past, task_at_with_task, task_at_with_task_other, task_at_with_used}
use Rattle.state.proofs.TaskUpdate.{idle_section, idle_sized}
use Rattle.legal.proofs.Tasks.{section_engaged}
use Rattle.legal.proofs.Parts.{legal_tasks}
use Rattle.legal.proofs.Changed.{engaged_others}
use Rattle.choice.specs.Choice.{chosen, chosen_task}
use Rattle.choice.proofs.Taken.{Takes, taken_takes}
use Rattle.step.specs.Events.{ended_task}
use Rattle.step.specs.Tick.{Shut, is_spent, shut_one, shut_turns, shut_spent}
use Rattle.step.proofs.Kept.{Kept}
use Rattle.step.proofs.Freed.{shut_kept}

-- subsystem c has a task inside a section
has_section : Plan → State → ℕ → Bool
has_section p s c = any p.tasks (λ k. eqb (owner p k) c && in_section p (task_at s k))

-- how many subsystems have one
open_sections : Plan → State → ℕ
open_sections p s = sum p.subsystems (λ c. cond (has_section p s c) 1 0)

-- the chosen task, if inside a section, is one that is there
pub section_takes : (p : Plan) (s : State) → Sized s → in_section p (task_at s (chosen_task p s)) ≡ true → Takes p (task_at s) (chosen p s) (chosen_task p s)
unfolding chosen_task
section_takes p s Z i = taken_takes p s (chosen p s) (λ e. clash (rw (e, task_at_past s no_row Z (omega arith)) at i) (idle_section p))

-- a task inside one shows it
has_section_lem : (p : Plan) (s : State) (k : ℕ) → k < p.tasks → in_section p (task_at s k) ≡ true → has_section p s (owner p k) ≡ true
unfolding has_section
has_section_lem p s k h i = any_of p.tasks _ k h (and_of _ _ (eq-eqb (owner p k) _ refl) i)

-- a task inside a section counts
section_counts : (p : Plan) (s : State) → Accepted p → (k : ℕ) → k < p.tasks → in_section p (task_at s k) ≡ true → 1 ≤ open_sections p s
unfolding open_sections
section_counts p s A k h i =
    rw (has_section_lem p s k h i) at (sum_at p.subsystems (λ c. cond (has_section p s c) 1 0) (owner p k) (A.owner_there k h))

-- a count that is there only if another is
less_or_same : (a b : Bool) → (a ≡ true → b ≡ true) → cond a 1 0 ≤ cond b 1 0
less_or_same true b f = rw (f refl) (omega arith)
less_or_same false b f = omega arith

-- one turn
module _ (p : Plan) (s : State) (A : Accepted p) (S : Kept p s) (k : ℕ) (h : k < p.tasks) (i : in_section p (task_at s k) ≡ true) where
  -- the state after it
  u : State
  u = with_used (ended_task s k) (owner p k) 0

  -- k is inside no section any more, and the others are as before
  inside_before : (j : ℕ) → in_section p (task_at u j) ≡ true → (j ≢ k) × (in_section p (task_at s j) ≡ true)
  unfolding u ended_task
  inside_before j v = go (eqb j k) refl
    where
      w : in_section p (task_at (with_task s k idle_task) j) ≡ true
      w = rw (task_at_with_used (with_task s k idle_task) (owner p k) 0 j) at v

      go : (b : Bool) → eqb j k ≡ b → (j ≢ k) × (in_section p (task_at s j) ≡ true)
      go true e = absurd (clash (rw (eqb-true j k e, task_at_with_task s k idle_task S.sized (omega (arith, A.tasks_most)) idle_sized) at w) (idle_section p))
      go false e = (eqb-false j k e, rw (task_at_with_task_other s k idle_task j (eqb-false j k e)) at w)

  -- so its subsystem has a section no more
  closed : has_section p u (owner p k) ≡ false
  unfolding has_section
  closed = any_absent p.tasks _ (λ j l. fails _ (λ e. none j l (eqb-true (owner p j) _ (search conjuncts)) (inside_before j (search conjuncts))))
    where
      none : (j : ℕ) → j < p.tasks → owner p j ≡ owner p k → (j ≢ k) × (in_section p (task_at s j) ≡ true) → ⊥
      none j l o v = clash v.1 (engaged_others p s (legal_tasks p s S.legal) k (owner p k) h refl (section_engaged p (task_at s k) i) j l o v.0)

  -- and no other subsystem has one that had none
  opened_before : (c : ℕ) → has_section p u c ≡ true → has_section p s c ≡ true
  unfolding has_section
  opened_before c e =
      let w = any_true p.tasks _ e in
      let v = w.passes in
      any_of p.tasks _ w.at w.there (and_of (eqb (owner p w.at) c) _ (search conjuncts) (inside_before w.at (search conjuncts)).1)

  -- so there is one fewer
  closes : open_sections p u + 1 ≤ open_sections p s
  unfolding open_sections
  closes =
      sum_falls p.subsystems _ _ 1 (owner p k) (A.owner_there k h) (rw (closed, has_section_lem p s k h i) (omega arith))
      (λ c l. less_or_same (has_section p u c) (has_section p s c) (opened_before c))

-- the chosen task is not at the end of its section
pub record Unspent (p : Plan) (s : State) : Type 0 where
  pub kept : Kept p s
  pub unspent : is_spent p s ≡ false

module _ (p : Plan) (A : Accepted p) where
  -- what is used up is a section
  pub spent_inside : (s : State) → is_spent p s ≡ true → in_section p (task_at s (chosen_task p s)) ≡ true
  unfolding is_spent
  spent_inside s e = search conjuncts

  -- with no section left nothing is used up
  none_spent : (s : State) → Kept p s → open_sections p s ≤ 0 → Unspent p s
  none_spent s S z = record { kept = S; unspent = fails _ spent }
    where
      spent : is_spent p s ≡ true → ⊥
      spent e =
          let i = spent_inside s e in
          omega (arith, section_counts p s A (chosen_task p s) (section_takes p s S.sized i).there i)

  -- one turn, and the others after it
  turn : (n : ℕ) (x : Shut) → Kept p x.state → open_sections p x.state ≤ suc n
      → ((y : Shut) → Kept p y.state → open_sections p y.state ≤ n → Unspent p (shut_turns n p y).state) → Unspent p (shut_turns (suc n) p x).state
  unfolding shut_turns shut_one u
  turn n x S l rest = go (is_spent p x.state) refl
    where
      k : ℕ
      k = chosen_task p x.state

      Done : Shut → Type 0
      Done y = Unspent p y.state

      go : (b : Bool) → is_spent p x.state ≡ b → Done (elim b [ true ↦ shut_turns n p (shut_one p x k) | false ↦ x ])
      go true e =
          let i = spent_inside x.state e in
          let h = (section_takes p x.state S.sized i).there in
          rest (shut_one p x k) (shut_kept p x.state A S k h i) (omega (arith, closes p x.state A S k h i))
      go false e = record { kept = S; unspent = e }

  -- all turns
  turns : (n : ℕ) (x : Shut) → Kept p x.state → open_sections p x.state ≤ n → Unspent p (shut_turns n p x).state
  unfolding shut_turns
  turns zero x S l = none_spent x.state S l
  turns (suc n) x S l = turn n x S l (turns n)

  -- as many turns as there are subsystems are enough
  pub shut_unspent : (s : State) → Kept p s → Unspent p (shut_spent p s).state
  unfolding shut_spent open_sections
  shut_unspent s S =
      turns p.subsystems (record { state = s; ended = 0 }) S
      (omega (arith, sum_bounded p.subsystems (λ c. cond (has_section p s c) 1 0) 1 (λ c l. less_or_same (has_section p s c) true (λ e. refl))))
