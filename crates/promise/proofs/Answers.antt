-- "Events": an event on an accepted plan and a legal state is answered with one of 0 to 11, so a run never meets 31, 32 or 34.
use mathlib.Core.Path.{◌≡◌, refl}
use mathlib.Core.List.{List, [], ◌∷◌, map}
use Prim.Native.Nat.{ℕ, ◌≤◌, ◌<◌}
use native.Mathlib.Omega.{arith}
use borrow.Author.Tests.{ne_eqb}
use Rattle.supply.specs.Charges.{count}
use Rattle.plan.specs.declared.Plan.{Plan}
use Rattle.state.specs.declared.State.{State}
use Rattle.step.specs.Step.{stepped}
use Rattle.step.proofs.Numbers.{of_stepped}
use Rattle.promise.specs.Budgets.{Event, outcomes}
use Rattle.promise.proofs.Scheduler.{given}

-- a larger number is not among the answers of a run
pub never : (p : Plan) (n : ℕ) → 11 < n → (s : State) (es : List Event) → count n (map (λ o. o.answer) (outcomes (stepped p) s es)) ≡ 0
unfolding count outcomes
never p n h s [] = refl
never p n h s (e ∷ es) = next (of_stepped p s e.kind e.task e.resource).answer (never p n h (given p s e).state es)
  where
    next : (given p s e).answer ≤ 11 → count n (map (λ o. o.answer) (outcomes (stepped p) (given p s e).state es)) ≡ 0
        → count n (map (λ o. o.answer) (given p s e ∷ outcomes (stepped p) (given p s e).state es)) ≡ 0
    next l q = rw (ne_eqb (given p s e).answer n (λ i. absurd (omega arith))) (omega arith)
