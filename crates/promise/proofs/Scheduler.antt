-- The scheduler of an accepted plan is a system of crate `supply` and meets what is assumed there.
use mathlib.Core.Path.{◌≡◌, ap}
use mathlib.Core.Logic.{⊎_elim}
use mathlib.Core.Bool.{true, false}
use Prim.Native.Nat.{ℕ, ◌+◌, ◌*◌, ◌≤◌, ◌<◌}
use native.Mathlib.Omega.{arith}
use borrow.Author.Tests.{leb-true, leb-false, eqb-true, eqb-false}
use Rattle.below.specs.Quotient.{rounded_up}
use Rattle.below.proofs.Tests.{decided}
use Rattle.supply.specs.System.{System}
use Rattle.supply.specs.Assumed.{Assumed, Fresh, Pressed, at_least_as_high, sum_high, charge}
use Rattle.plan.specs.declared.Plan.{Plan}
use Rattle.plan.specs.Plan.{period, budget, level}
use Rattle.plan.specs.Facts.{Accepted}
use Rattle.plan.proofs.DemandLaws.{high_fits}
use Rattle.state.specs.declared.State.{State}
use Rattle.state.specs.State.{left_of, refill_of}
use Rattle.state.specs.Fresh.{fresh}
use Rattle.state.proofs.Fresh.{fresh_left_lem, fresh_refill, fresh_sized}
use Rattle.legal.proofs.Parts.{legal_counts}
use Rattle.legal.proofs.Fresh.{fresh_legal}
use Rattle.step.specs.declared.Outcome.{Outcome}
use Rattle.step.specs.Refusals.{tick}
use Rattle.step.specs.Tick.{ticked}
use Rattle.step.specs.Step.{stepped}
use Rattle.step.specs.Strict.{strict_of}
use Rattle.step.proofs.Kept.{Kept}
use Rattle.step.proofs.Stepped.{stepped_kept}
use Rattle.step.proofs.Strict.{strict_blocking}
use Rattle.step.proofs.Spends.{tick_charged_busy, tick_busy_charged, tick_left, tick_refill, tick_full_left, tick_full_refill}
use Rattle.step.proofs.Still.{Still, stepped_still}
use Rattle.step.proofs.HeldBack as held_back
use Rattle.step.proofs.HeldBack.{still_strict}
use Rattle.step.proofs.TickHeldBack.{ticked_eases}
use Rattle.step.proofs.Cases.{stepped_tick}
use Rattle.promise.specs.Budgets.{Event, is_tick}

-- what an event gives
abbrev pub given : Plan → State → Event → Outcome
given p s e = stepped p s e.kind e.task e.resource

-- the rows are the subsystems, and the row that a tick charges is the one that its answer names
abbrev pub scheduler : Plan → System
scheduler p = record {
  State = State;
  Event = Event;
  Legal = Kept p;
  next = λ s e. (given p s e).state;
  tick = is_tick;
  charged = λ s e. (given p s e).subsystem;
  rows = p.subsystems;
  level = level p;
  period = period p;
  budget = budget p;
  left = λ s h. (left_of s h).0;
  refill = refill_of;
  strict = strict_of p;
}

-- a tick gives what document 01 says of one, whatever rows come with it
pub tick_given : (p : Plan) (s : State) (e : Event) → is_tick e ≡ true → given p s e ≡ ticked p s
unfolding is_tick
tick_given p s e t = rw (eqb-true e.kind tick t) (stepped_tick p s e.task e.resource)

-- any other event leaves budgets left and refills alone
pub other_still : (p : Plan) (s : State) (e : Event) → is_tick e ≡ false → Still s (given p s e).state
unfolding is_tick
other_still p s e t = stepped_still p s e.kind e.task e.resource (eqb-false e.kind tick t)

module _ (p : Plan) (A : Accepted p) where
  -- a row at least as high is busy
  pressed : (s : State) (row : ℕ) → Pressed (scheduler p) s row → held_back.Pressed p s row
  unfolding at_least_as_high
  pressed s row P = record { by = P.row; there = P.there; high = leb-true _ _ P.high; busy = P.busy }

  -- (3) nothing raises what holds a row back meanwhile
  strict_kept : (s : State) (e : Event) → Kept p s → (row : ℕ) → Pressed (scheduler p) s row → strict_of p (given p s e).state row ≤ strict_of p s row
  unfolding is_tick
  strict_kept s e S row P = ⊎_elim
      (λ t. rw (tick_given p s e t) (ticked_eases p s A S row (pressed s row P)).less)
      (λ t. still_strict p s A S row (pressed s row P) e.kind e.task e.resource (eqb-false e.kind tick t))
      (decided (is_tick e))

  -- (3) and a tick charged to a lower row takes from it
  strict_falls : (s : State) (e : Event) → Kept p s → (row : ℕ) → Pressed (scheduler p) s row → is_tick e ≡ true → (given p s e).subsystem < p.subsystems
      → at_least_as_high (scheduler p) row (given p s e).subsystem ≡ false → strict_of p (given p s e).state row < strict_of p s row
  unfolding at_least_as_high
  strict_falls s e S row P t = rw (tick_given p s e t)
      (λ h o. omega (arith, (ticked_eases p s A S row (pressed s row P)).falls h (leb-false _ _ o)))

  -- (4) what holds a row back is at most its blocking, which the demand has room for
  admitted : (s : State) → Kept p s → (row : ℕ) → row < p.subsystems
      → strict_of p s row + sum_high (scheduler p) row (λ h. budget p h * rounded_up (period p row) (period p h)) ≤ period p row
  unfolding sum_high at_least_as_high
  admitted s S row h = omega (arith, strict_blocking p s S.legal row, high_fits p A row h)

  -- all that is assumed
  pub scheduler_assumed : Assumed (scheduler p)
  unfolding charge
  scheduler_assumed = record {
    legal_next = λ s e S. stepped_kept p s A S e.task e.resource e.kind;
    refill_ahead = λ s S h l. (legal_counts p s S.legal h l).refill_ahead;
    period_whole = A.period_whole;
    still_left = λ s e S t h l. ap (λ q. q.0) ((other_still p s e t).left h);
    still_refill = λ s e S t h l. (other_still p s e t).refill h;
    charged_busy = λ s e S t. rw (tick_given p s e t) (tick_charged_busy p s A S);
    busy_charged = λ s e S t h l b. rw (tick_given p s e t) (tick_busy_charged p s A S h l b);
    tick_left = λ s e S t h l r. rw (tick_given p s e t) (tick_left p s A S h l r);
    tick_refill = λ s e S t h l r. rw (tick_given p s e t) (tick_refill p s A S h l r);
    full_left = λ s e S t h l r. rw (tick_given p s e t) (tick_full_left p s A S h l r);
    full_refill = λ s e S t h l r. rw (tick_given p s e t) (tick_full_refill p s A S h l r);
    strict_kept = λ s e S row h P. strict_kept s e S row P;
    strict_falls = λ s e S row h P. strict_falls s e S row P;
    admitted = admitted;
  }

  -- the fresh state is one to start from
  pub fresh_kept : Kept p (fresh p)
  fresh_kept = record { sized = fresh_sized p; legal = fresh_legal p A }

  pub scheduler_fresh : Fresh (scheduler p) (fresh p)
  scheduler_fresh = record {
    legal = fresh_kept;
    full = λ h l. fresh_left_lem p h (omega (arith, A.subsystems_most));
    whole = λ h l. fresh_refill p h (omega (arith, A.subsystems_most));
  }
