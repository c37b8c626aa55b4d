-- "Events", tick, as the code goes through it: every count that rises has room, and (b) to (d) after (a) make the tick.
use mathlib.Core.Path.{◌≡◌, refl, sym, ap, ◌∙◌}
use mathlib.Core.Logic.{◌⊎◌, inl, inr}
use mathlib.Core.Bool.{Bool, true, false, ◌&&◌}
use Prim.Native.Nat.{ℕ, ◌≤◌, ◌<◌}
use native.Mathlib.Omega.{arith}
use lib.Dec.{eqb}
use lib.ListN.{length, get_or-eq_default}
use borrow.Author.Tests.{eq-eqb, ne_eqb, eqb-true}
use Rattle.below.specs.Below.{any}
use Rattle.below.proofs.Search.{any_true, any_false}
use Rattle.below.proofs.Tests.{clash, fails, conjuncts, and_of}
use Rattle.plan.specs.declared.Plan.{Plan}
use Rattle.plan.specs.Limits.{most_subsystems, most_tasks, longest, no_row}
use Rattle.plan.specs.Plan.{owner}
use Rattle.plan.specs.Facts.{Accepted}
use Rattle.plan.proofs.Facts.{row_there}
use Rattle.state.specs.declared.State.{State}
use Rattle.state.specs.State.{most_held, task_at, used_of, in_section}
use Rattle.state.proofs.Update.{task_at_past, used_of_with_left}
use Rattle.state.proofs.TaskUpdate.{idle_count}
use Rattle.legal.proofs.Tasks.{section_global, section_there, section_declares}
use Rattle.choice.specs.Choice.{chosen, taken, runs, chosen_task}
use Rattle.step.specs.declared.tick.Settled.{Settled}
use Rattle.step.specs.Lent.{Settles}
use Rattle.step.specs.Tick.{Shut, given_waited, charged, ran, refilled, tick_answer, tick_in, tick_idle, tick_after, ticked}
use Rattle.step.proofs.Kept.{Kept}
use Rattle.step.proofs.Spent.{Unspent, shut_unspent}
use Rattle.step.proofs.Ticked.{given_kept}

module _ (p : Plan) (s : State) (A : Accepted p) (S : Kept p s) where
  -- a row holds at most 4 resources, there or not
  pub count_most : (k : ℕ) → (task_at s k).count ≤ most_held
  count_most k = go (row_there k p.tasks) (row_there k most_tasks)
    where
      go : (k < p.tasks) ⊎ (p.tasks ≤ k) → (k < most_tasks) ⊎ (most_tasks ≤ k) → (task_at s k).count ≤ most_held
      go (inl h) m = (S.legal.task k h).count
      go (inr h) (inl m) = omega (arith, (S.legal.no_task k m h).2)
      go (inr h) (inr m) = rw (task_at_past s k S.sized m, idle_count) (omega arith)

  -- the used count of a task inside a section is at most the length of that
  section_used : (k : ℕ) → k < p.tasks → in_section p (task_at s k) ≡ true → used_of s (owner p k) ≤ longest
  section_used k h i =
      let T = S.legal.task k h in
      omega (
        arith,
        S.legal.used_most k h i,
        A.global_longest k _ h (section_there p k _ T i) (section_declares p k _ T i) (section_global p k _ T i),
      )

  -- of a subsystem that is there
  used_there : (c : ℕ) → c < p.subsystems → used_of s c ≤ longest
  used_there c h = go (any p.tasks (λ k. eqb (owner p k) c && in_section p (task_at s k))) refl
    where
      go : (b : Bool) → any p.tasks (λ k. eqb (owner p k) c && in_section p (task_at s k)) ≡ b → used_of s c ≤ longest
      go true e =
          let w = any_true p.tasks _ e in
          let v = w.passes in
          rw (eqb-true (owner p w.at) c (search conjuncts)) at (section_used w.at w.there (search conjuncts))
      go false e =
          let z = S.legal.unused c h (λ k l o. fails _ (λ i. clash (and_of _ _ (eq-eqb (owner p k) c o) i) (any_false p.tasks _ e k l))) in
          omega arith

  -- of any, there or not
  used_most : (c : ℕ) → used_of s c ≤ longest
  unfolding used_of
  used_most c = go (row_there c p.subsystems) (row_there c most_subsystems)
    where
      go : (c < p.subsystems) ⊎ (p.subsystems ≤ c) → (c < most_subsystems) ⊎ (most_subsystems ≤ c) → used_of s c ≤ longest
      go (inl h) m = used_there c h
      go (inr h) (inl m) = omega (arith, S.legal.no_used c m h)
      go (inr h) (inr m) =
          let l : length s.used ≤ c = omega (arith, S.sized.used) in
          rw (get_or-eq_default s.used 0 l) (omega arith)

-- what follows (a), by whether a subsystem is chosen

module _ (p : Plan) (x : Shut) where
  after_none : chosen p x.state ≡ no_row → tick_after p x ≡ tick_idle p x
  unfolding tick_after
  after_none e = rw (eq-eqb _ no_row e, tick_after)

  after_some : (chosen p x.state ≡ no_row → ⊥) → tick_after p x ≡ tick_in p x (chosen p x.state)
  unfolding tick_after
  after_some n = rw (ne_eqb _ no_row n, tick_after)

  tick_idle_is : (a : ℕ) (u : State) → a ≡ tick_answer x.ended → u ≡ refilled p x.state
      → record { answer = a; subsystem = 255; task = 255; ended = x.ended; state = u } ≡ tick_idle p x
  unfolding tick_idle
  tick_idle_is a u e f = rw (e, f)

  tick_in_is : (c k j a : ℕ) (given paid after u : State) → k ≡ taken p x.state c → given ≡ given_waited p x.state k → j ≡ runs given k
      → paid ≡ charged given c → after ≡ ran p paid j → a ≡ tick_answer x.ended → u ≡ refilled p after
      → record { answer = a; subsystem = c; task = j; ended = x.ended; state = u } ≡ tick_in p x c
  unfolding tick_in
  tick_in_is c k j a given paid after u ek eg ej ep er ea eu = rw (eu, er, ep, ej, eg, ek, ea)

-- a tick, by what (a) left
module _ (p : Plan) (s : State) (A : Accepted p) (S : Kept p s) (v : State) (x : Settled) (T : Settles p s v x) where
  -- what (a) left
  abbrev shut : Shut
  shut = record { state = v; ended = x.ended }

  -- is what it leaves by its definition
  ticked_after : ticked p s ≡ tick_after p shut
  unfolding ticked
  ticked_after = ap (tick_after p) (sym (λ i. record { state = T.state i; ended = T.ended i }))

  -- nothing is used up there
  unspent : Unspent p v
  unspent = rw T.state (shut_unspent p A s S)

  -- with no subsystem chosen
  pub ticked_idle : x.subsystem ≡ no_row → (a : ℕ) (u : State) → a ≡ tick_answer x.ended → u ≡ refilled p v
      → record { answer = a; subsystem = x.subsystem; task = 255; ended = x.ended; state = u } ≡ ticked p s
  ticked_idle n a u e f = rw n (tick_idle_is p shut a u e f) ∙ sym (after_none p shut (sym T.subsystem ∙ n)) ∙ sym ticked_after

  -- (b) has room for what it takes
  pub waited_room : (task_at v x.task).count < 255
  waited_room = omega (arith, count_most p v A unspent.kept x.task)

  -- (b) leaves a legal state
  given_legal : Kept p (given_waited p v x.task)
  unfolding chosen_task
  given_legal = rw T.task (given_kept p v A unspent)

  -- (c) has room for one tick more
  pub used_room : (given : State) → given ≡ given_waited p v x.task → (paid : State) → paid ≡ charged given x.subsystem → (c : ℕ) → used_of paid c < 65535
  unfolding charged
  used_room given eg paid ep c = rw (ep, used_of_with_left given x.subsystem _ c) (omega (arith, used_most p given A (rw eg given_legal) c))

  -- with one
  pub ticked_in : (x.subsystem ≡ no_row → ⊥) → (j a : ℕ) (given paid after u : State) → given ≡ given_waited p v x.task → j ≡ runs given x.task
      → paid ≡ charged given x.subsystem → after ≡ ran p paid j → a ≡ tick_answer x.ended → u ≡ refilled p after
      → record { answer = a; subsystem = x.subsystem; task = j; ended = x.ended; state = u } ≡ ticked p s
  unfolding chosen_task
  ticked_in n j a given paid after u eg ej ep er ea eu =
      tick_in_is p shut x.subsystem x.task j a given paid after u (T.task ∙ ap (taken p v) (sym T.subsystem)) eg ej ep er ea eu
      ∙ ap (tick_in p shut) T.subsystem
      ∙ sym (after_some p shut (λ e. n (T.subsystem ∙ e)))
      ∙ sym ticked_after
