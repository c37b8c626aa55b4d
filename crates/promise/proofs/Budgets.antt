-- Demand 3 for the scheduler holds: the theorem of crate `supply`, over the subsystems that the tick answers name.
use mathlib.Core.Path.{◌≡◌, refl, ap}
use mathlib.Core.Bool.{Bool, true, false}
use mathlib.Core.List.{List, [], ◌∷◌}
use Prim.Native.Nat.{ℕ, ◌*◌}
use native.Mathlib.Omega.{arith}
use lib.ListN.{drop, length-drop}
use lib.Seq.{take_all}
use Rattle.supply.specs.Charges.{charges, period_of, Exact}
use Rattle.supply.proofs.Theorem.{exact}
use Rattle.plan.specs.declared.Plan.{Plan}
use Rattle.plan.specs.Plan.{period}
use Rattle.plan.proofs.Facts.{accepted_facts}
use Rattle.state.specs.declared.State.{State}
use Rattle.state.specs.Fresh.{fresh}
use Rattle.step.specs.Step.{stepped}
use Rattle.promise.specs.Budgets.{Event, is_tick, outcomes, of_ticks, tick_answers, GetsBudget, BudgetsExact}
use Rattle.promise.proofs.Scheduler.{given, scheduler, scheduler_assumed, scheduler_fresh}

-- what the ticks charge is what their answers name
pub charges_named : (p : Plan) (s : State) (es : List Event) → charges (scheduler p) s es ≡ tick_answers es (outcomes (stepped p) s es)
unfolding charges tick_answers of_ticks outcomes
charges_named p s [] = refl
charges_named p s (e ∷ es) = go (is_tick e) (charges_named p (given p s e).state es)
  where
    go : (b : Bool) → charges (scheduler p) (given p s e).state es ≡ tick_answers es (outcomes (stepped p) (given p s e).state es)
        → ◌≡◌ {A = List ℕ}
        (elim b [ true ↦ (given p s e).subsystem ∷ charges (scheduler p) (given p s e).state es | false ↦ charges (scheduler p) (given p s e).state es ])
        (elim b [
          | true ↦ (given p s e).subsystem ∷ tick_answers es (outcomes (stepped p) (given p s e).state es)
          | false ↦ tick_answers es (outcomes (stepped p) (given p s e).state es)
        ])
    go true q = ap (λ l. (given p s e).subsystem ∷ l) q
    go false q = q

-- from the theorem's words to the statement's
gets_budget : (p : Plan) (s : State) (es : List Event) (row : ℕ) → Exact (scheduler p) s es row → GetsBudget p (charges (scheduler p) s es) row
unfolding period_of
gets_budget p s es row E = record {
  complete = E.complete;
  unfinished = λ k h l. rw (take_all (period p row) (drop (k * period p row) ticks) (rw (length-drop (k * period p row) ticks) (omega arith))) at (E.unfinished k);
}
  where
    ticks : List ℕ
    ticks = charges (scheduler p) s es

-- demand 3
pub budgets_exact : BudgetsExact
budgets_exact p a es row h =
    let A = accepted_facts p a in
    rw (charges_named p (fresh p) es) at (gets_budget p (fresh p) es row (exact (scheduler p) (scheduler_assumed p A) (fresh p) (scheduler_fresh p A) es row h))
