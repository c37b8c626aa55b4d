-- Demand 3 over the calls from C holds.
use mathlib.Core.Path.{◌≡◌, ap}
use mathlib.Core.List.{List, map, map-map}
use Prim.Native.Nat.{ℕ, ◌<◌}
use native.Mathlib.Omega.{arith}
use lib.ListN.{length}
use Rattle.supply.specs.Charges.{count}
use Rattle.plan.specs.declared.Plan.{Plan}
use Rattle.plan.proofs.Facts.{accepted_facts}
use Rattle.state.specs.Fresh.{fresh}
use Rattle.step.specs.declared.Outcome.{Outcome}
use Rattle.step.specs.Step.{stepped}
use Rattle.image.specs.Image.{image_bytes}
use Rattle.host.specs.Read.{read_call}
use Rattle.host.specs.Fresh.{fresh_call}
use Rattle.host.specs.Step.{StepCall, step_left, step_gives}
use Rattle.promise.specs.Budgets.{Event, outcomes, tick_answers}
use Rattle.promise.specs.BudgetsInC.{tick_answers_in_c, CallsExact, HostExact, BudgetsExactInC}
use Rattle.promise.proofs.Scheduler.{fresh_kept}
use Rattle.promise.proofs.Budgets.{budgets_exact}
use Rattle.promise.proofs.Answers.{never}
use Rattle.promise.proofs.Lent.{Lent, read_lent}
use Rattle.promise.proofs.Calls.{fresh_given, calls_given}

-- the calls of a run name and answer what its outcomes do

named_given : (es : List Event) (os : List Outcome) → tick_answers_in_c es (map step_gives os) ≡ tick_answers es os
unfolding tick_answers_in_c tick_answers step_gives
named_given es os = rw (map-map (λ (c : StepCall). c.subsystem) step_gives os)

never_given : (p : Plan) (es : List Event) (n : ℕ) → 11 < n → count n (map (λ c. c.number) (map step_gives (outcomes (stepped p) (fresh p) es))) ≡ 0
unfolding step_gives
never_given p es n h = rw (map-map (λ (c : StepCall). c.number) step_gives (outcomes (stepped p) (fresh p) es)) (never p n h (fresh p) es)

module _ (p : Plan) (b : List ℕ) (L : Lent p b) where
  -- the outcomes, as calls, keep demand 3
  outcomes_exact : (es : List Event) → CallsExact p es (map step_gives (outcomes (stepped p) (fresh p) es))
  outcomes_exact es = record {
    budgets = λ s h. rw (named_given es (outcomes (stepped p) (fresh p) es)) (budgets_exact p L.accepts es s h);
    never_31 = never_given p es 31 (omega arith);
    never_32 = never_given p es 32 (omega arith);
    never_34 = never_given p es 34 (omega arith);
  }

  -- and the calls on a fresh image are those
  host_exact : (image : List ℕ) → length image ≡ image_bytes → HostExact p b image
  host_exact image h =
      let f = fresh_given p b L image h in
      record {
        starts = ap (λ c. c.number) f;
        runs = λ x y z es.
            rw (calls_given p b L (fresh p) (fresh_kept p (accepted_facts p L.accepts)) (step_left 0 (fresh_call b image).image x y z) (ap (λ c. c.image) f) es)
            (outcomes_exact es);
      }

-- demand 3 in C
pub budgets_exact_in_c : BudgetsExactInC
budgets_exact_in_c text buffer beside z =
    let l = read_lent text buffer beside z in
    record { plan = l.plan; reads = l.reads; runs = host_exact l.plan (read_call text buffer beside).block l.lends }
