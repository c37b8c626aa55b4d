-- "Events", tick: what a tick takes from whom, and what is full again afterwards. The row charged is the one that the answer names.
use mathlib.Core.Path.{◌≡◌, refl, sym, ap, ◌∙◌}
use mathlib.Core.Logic.{◌≢◌, ⊎_elim}
use mathlib.Core.Bool.{Bool, true, false, cond}
use Prim.Native.Nat.{ℕ, ◌+◌, ◌≤◌, ◌<◌}
use native.Mathlib.Omega.{arith}
use lib.Dec.{eqb}
use borrow.Author.Tests.{eqb-true, eqb-false}
use Rattle.plan.specs.declared.Plan.{Plan}
use Rattle.plan.specs.Limits.{most_subsystems, no_row}
use Rattle.plan.specs.Plan.{period, budget}
use Rattle.plan.specs.Facts.{Accepted}
use Rattle.plan.proofs.Facts.{row_there}
use Rattle.state.specs.declared.State.{State}
use Rattle.state.specs.State.{left_of, refill_of}
use Rattle.choice.specs.Choice.{chosen}
use Rattle.choice.proofs.ChosenFacts.{chosen_there, budget_chosen}
use Rattle.step.specs.declared.Outcome.{Outcome}
use Rattle.step.specs.Tick.{Shut, shut_spent, ran, refilled, tick_in, tick_idle, tick_after, ticked}
use Rattle.step.proofs.Kept.{Kept}
use Rattle.step.proofs.Pays.{Pays, given_in, runs_in}
use Rattle.step.proofs.Refilled.{refilled_left_now, refilled_refill_now, refilled_left_later, refilled_refill_later}
use Rattle.step.proofs.Spent.{Unspent, shut_unspent}
use Rattle.step.proofs.Still.{Still, still_then, shut_still, given_still, ran_still}
use Rattle.step.proofs.Ticked.{chosen_has_budget, chosen_pays}

-- from s on: a state before (d) in which the row named has one tick less, and every other as much as before
pub record Spends (p : Plan) (s : State) (o : Outcome) : Type 0 where
  pub before : State
  pub after : o.state ≡ refilled p before
  pub refill : (d : ℕ) → refill_of before d ≡ refill_of s d
  pub left : (d : ℕ) → d ≢ o.subsystem → (left_of before d).0 ≡ (left_of s d).0
  pub charged : o.subsystem < p.subsystems → (left_of before o.subsystem).0 + 1 ≡ (left_of s o.subsystem).0
  pub idle : p.subsystems ≤ o.subsystem → (d : ℕ) → d < p.subsystems → (left_of s d).0 ≡ 0

module _ (p : Plan) (s : State) (A : Accepted p) (x : Shut) (U : Unspent p x.state) (Q : Still s x.state) where
  -- no subsystem is chosen
  spends_idle : chosen p x.state ≡ no_row → Spends p s (tick_idle p x)
  unfolding tick_idle
  spends_idle e =
      record {
        before = x.state;
        after = refl;
        refill = Q.refill;
        left = λ d n. ap (λ q. q.0) (Q.left d);
        charged = λ h. absurd (omega (arith, A.subsystems_most));
        idle = λ h d l. ⊎_elim (λ b. absurd (busy d l b)) (λ z. omega arith) (row_there 0 (left_of s d).0);
      }
    where
      busy : (d : ℕ) → d < p.subsystems → 0 < (left_of s d).0 → ⊥
      busy d l b = omega (arith, e, A.subsystems_most, budget_chosen p x.state A U.kept.legal d l (rw (Q.left d) b))

  -- one is
  spends_in : chosen p x.state ≢ no_row → Spends p s (tick_in p x (chosen p x.state))
  unfolding tick_in
  spends_in n =
      record {
        before = y;
        after = L.after;
        refill = λ d. (ran_still p _ _).refill d ∙ L.pays.refill d ∙ G.refill d;
        left = λ d m. ap (λ q. q.0) ((ran_still p _ _).left d) ∙ (L.pays.elsewhere d m).left ∙ ap (λ q. q.0) (G.left d);
        charged = λ h. one;
        idle = λ h. absurd (omega (arith, chosen_there p x.state A U.kept.legal n));
      }
    where
      c : ℕ
      c = chosen p x.state

      L : Pays p x c
      L = chosen_pays p x A U n

      y : State
      y = ran p L.paid (runs_in p x c)

      G : Still s (given_in p x c)
      G = still_then s x.state (given_in p x c) Q (given_still p x.state _)

      one : (left_of y c).0 + 1 ≡ (left_of s c).0
      one =
          let a = ap (λ q. q.0) ((ran_still p L.paid (runs_in p x c)).left c) in
          let d = ap (λ q. q.0) (G.left c) in
          let e = ap (λ q. q.0) (Q.left c) in
          omega (arith, L.pays.left, chosen_has_budget p x.state A U n)

  -- either
  spends_after : Spends p s (tick_after p x)
  unfolding tick_after
  spends_after = go (eqb (chosen p x.state) no_row) refl
    where
      go : (b : Bool) → eqb (chosen p x.state) no_row ≡ b → Spends p s (elim b [ true ↦ tick_idle p x | false ↦ tick_in p x (chosen p x.state) ])
      go true e = spends_idle (eqb-true _ _ e)
      go false e = spends_in (eqb-false _ _ e)

-- a tick
pub ticked_spends : (p : Plan) (s : State) → Accepted p → Kept p s → Spends p s (ticked p s)
unfolding ticked
ticked_spends p s A S = spends_after p s A (shut_spent p s) (shut_unspent p A s S) (shut_still p s)

-- so, of a row h that is there
module _ (p : Plan) (s : State) (A : Accepted p) (S : Kept p s) where
  -- the tick
  D : Spends p s (ticked p s)
  D = ticked_spends p s A S

  -- the row charged had budget left
  pub tick_charged_busy : (ticked p s).subsystem < p.subsystems → 0 < (left_of s (ticked p s).subsystem).0
  tick_charged_busy h = omega (arith, D.charged h)

  -- where a row has budget left, one is charged
  pub tick_busy_charged : (h : ℕ) → h < p.subsystems → 0 < (left_of s h).0 → (ticked p s).subsystem < p.subsystems
  tick_busy_charged h l b = ⊎_elim (λ v. v) (λ v. absurd (omega (arith, D.idle v h l))) (row_there (ticked p s).subsystem p.subsystems)

  module _ (h : ℕ) (l : h < p.subsystems) where
    -- a row of the list
    most : h < most_subsystems
    most = omega (arith, A.subsystems_most)

    -- one tick is charged to the row named
    pub tick_left : 1 < refill_of s h → (left_of (ticked p s).state h).0 + cond (eqb (ticked p s).subsystem h) 1 0 ≡ (left_of s h).0
    tick_left r = rw D.after (go (eqb (ticked p s).subsystem h) refl)
      where
        later : (left_of (refilled p D.before) h).0 ≡ (left_of D.before h).0
        later = refilled_left_later p D.before h most (omega (arith, D.refill h))

        go : (b : Bool) → eqb (ticked p s).subsystem h ≡ b → (left_of (refilled p D.before) h).0 + cond b 1 0 ≡ (left_of s h).0
        go true e =
            let q = eqb-true (ticked p s).subsystem h e in
            let v : (left_of D.before h).0 + 1 ≡ (left_of s h).0 = rw q at (D.charged (rw q l)) in
            omega (arith, later)
        go false e = omega (arith, later, D.left h (λ q. eqb-false (ticked p s).subsystem h e (sym q)))

    -- one tick less to the refill
    pub tick_refill : 1 < refill_of s h → refill_of (ticked p s).state h + 1 ≡ refill_of s h
    tick_refill r = rw D.after (omega (arith, refilled_refill_later p D.before h most (omega (arith, D.refill h)), D.refill h))

    -- at the last tick of a period all is full again

    pub tick_full_left : refill_of s h ≡ 1 → (left_of (ticked p s).state h).0 ≡ budget p h
    tick_full_left e = rw D.after (refilled_left_now p D.before h most (omega (arith, D.refill h)))

    pub tick_full_refill : refill_of s h ≡ 1 → refill_of (ticked p s).state h ≡ period p h
    tick_full_refill e = rw D.after (refilled_refill_now p D.before h most (omega (arith, D.refill h)))
