-- Demand 3 through the step that tests plan and state record: both tests pass at each event, so the run is the same.
use mathlib.Core.Path.{◌≡◌, refl, ap}
use mathlib.Core.Bool.{true}
use mathlib.Core.List.{List, [], ◌∷◌}
use Prim.Native.Nat.{ℕ}
use native.Mathlib.Omega.{arith}
use Rattle.plan.specs.declared.Plan.{Plan}
use Rattle.plan.specs.Accepted.{accepted}
use Rattle.plan.proofs.Facts.{accepted_facts}
use Rattle.state.specs.declared.State.{State}
use Rattle.state.specs.Fresh.{fresh}
use Rattle.legal.proofs.Facts.{facts_legal}
use Rattle.step.specs.Step.{stepped, step}
use Rattle.step.proofs.Kept.{Kept}
use Rattle.step.proofs.Stepped.{stepped_kept}
use Rattle.promise.specs.Budgets.{Event, outcomes, BudgetsExactByStep}
use Rattle.promise.proofs.Scheduler.{given, fresh_kept}
use Rattle.promise.proofs.Budgets.{budgets_exact}
use Rattle.promise.proofs.Answers.{never}

module _ (p : Plan) (a : accepted p ≡ true) where
  -- an event on a legal state is not refused with 31 or 32
  step_same : (s : State) → Kept p s → (kind k r : ℕ) → step p s kind k r ≡ stepped p s kind k r
  unfolding step
  step_same s S kind k r = rw (a, facts_legal p s S.legal, step)

  -- nor any of a run, as each leaves a legal state
  outcomes_same : (s : State) → Kept p s → (es : List Event) → outcomes (step p) s es ≡ outcomes (stepped p) s es
  unfolding outcomes
  outcomes_same s S [] = refl
  outcomes_same s S (e ∷ es) = next (outcomes_same (given p s e).state (stepped_kept p s (accepted_facts p a) S e.task e.resource e.kind) es)
    where
      next : outcomes (step p) (given p s e).state es ≡ outcomes (stepped p) (given p s e).state es → outcomes (step p) s (e ∷ es) ≡ outcomes (stepped p) s (e ∷ es)
      next q = rw (step_same s S e.kind e.task e.resource) (ap (λ l. given p s e ∷ l) q)

-- demand 3 for the public step
pub budgets_exact_by_step : BudgetsExactByStep
budgets_exact_by_step p a es = rw (outcomes_same p a (fresh p) (fresh_kept p (accepted_facts p a)) es)
    (record {
      budgets = budgets_exact p a es;
      never_31 = never p 31 (omega arith) (fresh p) es;
      never_32 = never p 32 (omega arith) (fresh p) es;
    })
