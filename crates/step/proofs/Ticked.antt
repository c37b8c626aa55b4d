-- "Events", tick: (a) to (d) together. What is charged has budget left, and a legal state stays legal.
use mathlib.Core.Path.{◌≡◌, refl, ap, ◌∙◌}
use mathlib.Core.Logic.{◌≢◌, ⊎_elim}
use mathlib.Core.Bool.{Bool, true, false}
use Prim.Native.Nat.{ℕ, ◌<◌}
use native.Mathlib.Omega.{arith}
use lib.Dec.{eqb}
use borrow.Author.Tests.{eqb-false}
use Rattle.below.proofs.Tests.{clash, fails}
use Rattle.plan.specs.declared.Plan.{Plan}
use Rattle.plan.specs.Limits.{no_row}
use Rattle.plan.specs.Plan.{owner}
use Rattle.plan.specs.Facts.{Accepted}
use Rattle.state.specs.declared.State.{State}
use Rattle.state.specs.State.{task_at, left_of, is_waiting, is_active, holds}
use Rattle.state.specs.Sized.{Sized}
use Rattle.legal.specs.Facts.{Legal}
use Rattle.legal.proofs.Facts.{NoSection}
use Rattle.legal.proofs.Tasks.{section_active}
use Rattle.legal.proofs.Parts.{legal_counts}
use Rattle.choice.specs.Choice.{chosen, taken, runs, chosen_task}
use Rattle.choice.proofs.Taken.{Takes, taken_cases}
use Rattle.choice.proofs.ChosenFacts.{Chosen, by_level, by_holding, nobody, chosen_cases, chosen_there, holder_taken}
use Rattle.step.specs.declared.Outcome.{Outcome}
use Rattle.step.specs.Tick.{Shut, is_spent, shut_spent, given_waited, ran, tick_in, tick_idle, tick_after, ticked}
use Rattle.step.proofs.Kept.{Kept}
use Rattle.step.proofs.Pays.{Paid, Pays, tick_pays}
use Rattle.step.proofs.Charged.{nobody_run_kept, task_run_kept}
use Rattle.step.proofs.Refilled.{refilled_kept}
use Rattle.step.proofs.Spent.{Unspent, shut_unspent}
use Rattle.step.proofs.Waited.{unspent_unused, given_after, given_nobody, waiting_takes, waits_for_free}

-- what (b) to (d) do to a state with nothing used up
module _ (p : Plan) (s : State) (A : Accepted p) (U : Unspent p s) where
  -- the chosen subsystem has budget left
  pub chosen_has_budget : chosen p s ≢ no_row → 0 < (left_of s (chosen p s)).0
  unfolding chosen_task
  chosen_has_budget n = go (chosen_cases p s A U.kept.legal)
    where
      go : Chosen p s (chosen p s) → 0 < (left_of s (chosen p s)).0
      go (by_level B) = B.budget
      go (by_holding H) =
          let k = H.holder in
          let q = holder_taken p s U.kept.legal (chosen p s) H in
          let more = rw (q, H.owned) at (unspent_unused p s U.unspent) in
          let C = legal_counts p s U.kept.legal (chosen p s) (chosen_there p s A U.kept.legal n) in
          omega (arith, more H.inside, C.left_enough k H.there H.owned H.inside)
      go (nobody N) = absurd (n N.none)

  -- (b)
  pub given_kept : Kept p (given_waited p s (taken p s (chosen p s)))
  unfolding chosen_task
  given_kept =
      ⊎_elim (λ e. rw (e.0, given_nobody p s U.kept.sized) U.kept)
      (λ K. (given_after p s A U.kept (taken p s (chosen p s)) K (unspent_unused p s U.unspent)).kept)
      (taken_cases p s (chosen p s))

  -- (b) and (c)
  run_kept : chosen p s ≢ no_row → (v : State) → Paid (given_waited p s (taken p s (chosen p s))) (chosen p s) v
      → Kept p (ran p v (runs (given_waited p s (taken p s (chosen p s))) (taken p s (chosen p s))))
  unfolding chosen_task
  run_kept n v Q = ⊎_elim none some (taken_cases p s (chosen p s))
    where
      c : ℕ
      c = chosen p s

      k : ℕ
      k = taken p s c

      there : c < p.subsystems
      there = chosen_there p s A U.kept.legal n

      none : (k ≡ no_row) × ((j : ℕ) → j < p.tasks → owner p j ≡ c → is_active (task_at s j) ≡ false) → Kept p (ran p v (runs (given_waited p s k) k))
      none e =
          let out : NoSection p s c = λ j l o. fails _ (λ i. clash (section_active p j (task_at s j) (U.kept.legal.task j l) i) (e.1 j l o)) in
          let same = ap (given_waited p s) e.0 ∙ given_nobody p s U.kept.sized in
          rw same (nobody_run_kept p s A U.kept c there v (rw same at Q) k e.0 out)

      some : Takes p (task_at s) c k → Kept p (ran p v (runs (given_waited p s k) k))
      some K =
          let G = given_after p s A U.kept k K (unspent_unused p s U.unspent) in
          task_run_kept p (given_waited p s k) A G.kept c there v Q k G.takes (rw G.takes.owned at G.unused)

-- what follows (a)
module _ (p : Plan) (x : Shut) (A : Accepted p) (U : Unspent p x.state) where
  -- a subsystem is chosen

  pub chosen_pays : chosen p x.state ≢ no_row → Pays p x (chosen p x.state)
  chosen_pays n =
      tick_pays p x (chosen p x.state) (given_kept p x.state A U).sized (omega (arith, chosen_there p x.state A U.kept.legal n, A.subsystems_most))

  tick_in_kept : chosen p x.state ≢ no_row → Kept p (tick_in p x (chosen p x.state)).state
  tick_in_kept n = rw (chosen_pays n).after (refilled_kept p _ A (run_kept p x.state A U n _ (chosen_pays n).pays))

  -- none is
  tick_idle_kept : Kept p (tick_idle p x).state
  unfolding tick_idle
  tick_idle_kept = refilled_kept p x.state A U.kept

  -- either
  tick_after_kept : Kept p (tick_after p x).state
  unfolding tick_after
  tick_after_kept = go (eqb (chosen p x.state) no_row) refl
    where
      State-kept : Outcome → Type 0
      State-kept o = Kept p o.state

      go : (b : Bool) → eqb (chosen p x.state) no_row ≡ b → State-kept (elim b [ true ↦ tick_idle p x | false ↦ tick_in p x (chosen p x.state) ])
      go true e = tick_idle_kept
      go false e = tick_in_kept (eqb-false _ _ e)

module _ (p : Plan) (s : State) (A : Accepted p) where
  -- a tick keeps a legal state legal
  pub ticked_kept : Kept p s → Kept p (ticked p s).state
  unfolding ticked
  ticked_kept S = tick_after_kept p (shut_spent p s) A (shut_unspent p A s S)

  module _ (Z : Sized s) (L : Legal p s) where
    -- the state after (a)
    after_shut : Unspent p (shut_spent p s).state
    after_shut = shut_unspent p A s (record { sized = Z; legal = L })

    -- (a) has enough turns
    pub shut_enough : is_spent p (shut_spent p s).state ≡ false
    shut_enough = after_shut.unspent

    -- (c) charges only where budget is left
    pub charged_has_budget : chosen p (shut_spent p s).state ≢ no_row → 0 < (left_of (shut_spent p s).state (chosen p (shut_spent p s).state)).0
    charged_has_budget n = chosen_has_budget p (shut_spent p s).state A after_shut n

    -- (b) never finds its resource held
    pub waited_finds_free : is_waiting (task_at (shut_spent p s).state (chosen_task p (shut_spent p s).state)) ≡ true → (j : ℕ) → j < p.tasks
        → holds (task_at (shut_spent p s).state j) (task_at (shut_spent p s).state (chosen_task p (shut_spent p s).state)).waits ≡ false
    waited_finds_free w = waits_for_free p x A after_shut.kept (chosen_task p x) (waiting_takes p x after_shut.kept.sized w) w
      where
        x : State
        x = (shut_spent p s).state
