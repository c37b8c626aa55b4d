-- "Events", step (d): every subsystem's ticks to refill fall by one, and at 0 budget and period are set full again. A legal state stays legal.
use mathlib.Core.Path.{◌≡◌, refl, ap, ◌∙◌}
use mathlib.Core.Logic.{◌⊎◌, inl, inr}
use mathlib.Core.Bool.{true, false}
use Prim.Native.Nat.{ℕ, ◌-◌, ◌≤◌, ◌<◌}
use native.Mathlib.Omega.{arith}
use lib.Dec.{leb}
use borrow.Author.Tests.{le-leb, lt-leb}
use Rattle.below.proofs.Listed.{length_listed, get_or_listed}
use Rattle.plan.specs.declared.Plan.{Plan}
use Rattle.plan.specs.Limits.{most_subsystems}
use Rattle.plan.specs.Plan.{period, budget}
use Rattle.plan.specs.Facts.{Accepted}
use Rattle.plan.proofs.Facts.{row_there}
use Rattle.state.specs.declared.BudgetLeft.{BudgetLeft}
use Rattle.state.specs.declared.State.{State}
use Rattle.state.specs.State.{task_at, left_of, refill_of, used_of}
use Rattle.state.specs.Sized.{Sized}
use Rattle.legal.proofs.Parts.{CountsAt, NoCounts, legal_tasks, legal_counts, legal_absent, legal_of}
use Rattle.legal.proofs.Changed.{tasks_same}
use Rattle.step.specs.Tick.{refilled}
use Rattle.step.proofs.Kept.{Kept}

-- which way a test goes, whatever it tests against
module _ {A : Type 0} (n m : ℕ) (x y : A) where
  at_most : n ≤ m → elim (leb n m) [ true ↦ x | false ↦ y ] ≡ x
  at_most h = rw (le-leb n m h)

  above : m < n → elim (leb n m) [ true ↦ x | false ↦ y ] ≡ y
  above h = rw (lt-leb n m h)

module _ (p : Plan) (s : State) where
  -- no task changes
  pub refilled_tasks : (k : ℕ) → task_at (refilled p s) k ≡ task_at s k
  unfolding refilled task_at
  refilled_tasks k = refl

  -- and no used count
  pub refilled_used : (c : ℕ) → used_of (refilled p s) c ≡ used_of s c
  unfolding refilled used_of
  refilled_used c = refl

  -- the lists keep their lengths
  refilled_sized : Sized s → Sized (refilled p s)
  unfolding refilled task_at
  refilled_sized Z =
      record { left = length_listed most_subsystems _; refill = length_listed most_subsystems _; used = Z.used; conditions = Z.conditions; waits = Z.waits; counts = Z.counts; held = Z.held }

  module _ (c : ℕ) (l : c < most_subsystems) where
    -- the last tick of a period: full again

    pub refilled_left_now : refill_of s c ≤ 1 → (left_of (refilled p s) c).0 ≡ budget p c
    unfolding refilled left_of
    refilled_left_now h = ap (λ (q : BudgetLeft). q.0) (get_or_listed most_subsystems _ c _ l ∙ at_most (refill_of s c) _ _ _ (omega arith))

    pub refilled_refill_now : refill_of s c ≤ 1 → refill_of (refilled p s) c ≡ period p c
    unfolding refilled refill_of
    refilled_refill_now h = get_or_listed most_subsystems _ c _ l ∙ at_most (refill_of s c) _ _ _ (omega arith)

    -- any other tick

    pub refilled_left_later : 1 < refill_of s c → (left_of (refilled p s) c).0 ≡ (left_of s c).0
    unfolding refilled left_of
    refilled_left_later h = ap (λ (q : BudgetLeft). q.0) (get_or_listed most_subsystems _ c _ l ∙ above (refill_of s c) _ _ _ (omega arith))

    pub refilled_refill_later : 1 < refill_of s c → refill_of (refilled p s) c ≡ refill_of s c - 1
    unfolding refilled refill_of
    refilled_refill_later h = get_or_listed most_subsystems _ c _ l ∙ above (refill_of s c) _ _ _ (omega arith)

module _ (p : Plan) (s : State) (A : Accepted p) (S : Kept p s) where
  -- the counts of a subsystem
  refilled_counts : (c : ℕ) → c < p.subsystems → CountsAt p (refilled p s) c
  unfolding refilled task_at used_of
  refilled_counts c h = go (row_there 1 (refill_of s c))
    where
      C : CountsAt p s c
      C = legal_counts p s S.legal c h

      l : c < most_subsystems
      l = omega (arith, A.subsystems_most)

      -- what holds where budget left is no less than before
      counts : (left_of s c).0 ≤ (left_of (refilled p s) c).0 → (left_of (refilled p s) c).0 ≤ budget p c → 1 ≤ refill_of (refilled p s) c → refill_of (refilled p s) c ≤ period p c
          → CountsAt p (refilled p s) c
      counts more most ahead within =
          record {
            left_most = most;
            refill_ahead = ahead;
            refill_most = within;
            unused = C.unused;
            used_most = C.used_most;
            left_enough = λ k m o i. omega (arith, C.left_enough k m o i);
          }

      go : (1 < refill_of s c) ⊎ (refill_of s c ≤ 1) → CountsAt p (refilled p s) c
      go (inl later) =
          let a = refilled_left_later p s c l later in
          let b = refilled_refill_later p s c l later in
          counts (omega arith) (omega (arith, C.left_most)) (omega arith) (omega (arith, C.refill_most))
      go (inr now) =
          let a = refilled_left_now p s c l now in
          let b = refilled_refill_now p s c l now in
          counts (omega (arith, C.left_most)) (omega arith) (omega (arith, A.period_whole c h)) (omega arith)

  -- and of an absent one
  refilled_absent : (c : ℕ) → c < most_subsystems → p.subsystems ≤ c → NoCounts (refilled p s) c
  refilled_absent c l h =
      let N = legal_absent p s S.legal c l h in (
        refilled_left_now p s c l (omega (arith, N.1)) ∙ A.no_budget c l h,
        refilled_refill_now p s c l (omega (arith, N.1)) ∙ A.no_period c l h,
        refilled_used p s c ∙ N.2,
      )

  -- the whole state
  pub refilled_kept : Kept p (refilled p s)
  refilled_kept =
      record {
        sized = refilled_sized p s S.sized;
        legal = legal_of p (refilled p s) A (tasks_same p s (refilled p s) (refilled_tasks p s) (legal_tasks p s S.legal)) refilled_counts refilled_absent;
      }
