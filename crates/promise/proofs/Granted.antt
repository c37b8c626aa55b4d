-- "Easy to get wrong": a length equal to the budget left is granted, at a lock and at step (b) of a tick. Document 01's run never meets the case.
use mathlib.Core.Path.{◌≡◌, refl}
use mathlib.Core.Bool.{Bool, true, false}
use Prim.Native.Nat.{ℕ}
use native.Mathlib.Nat.{le_of_eq}
use borrow.Author.Tests.{le-leb}
use Rattle.plan.specs.declared.Plan.{Plan}
use Rattle.plan.specs.Plan.{owner, is_global, length_of}
use Rattle.state.specs.declared.State.{State}
use Rattle.state.specs.State.{task_at, left_of, is_waiting}
use Rattle.step.specs.Events.{answered, length_fits_budget, with_taken, locked}
use Rattle.step.specs.Tick.{given_waited}

module _ (p : Plan) (s : State) (k : ℕ) where
  -- equal is within the budget left
  fits : (r : ℕ) → length_of p k r ≡ (left_of s (owner p k)).0 → length_fits_budget p s k r ≡ true
  unfolding length_fits_budget
  fits r e = le-leb _ _ (le_of_eq e)

  -- the lock of such a resource, local or global, takes it and is answered 0
  pub lock_granted : (r : ℕ) → length_of p k r ≡ (left_of s (owner p k)).0 → locked p s k r ≡ answered p (with_taken s k r) 0
  unfolding locked
  lock_granted r e = go (is_global p r) refl
    where
      go : (g : Bool) → is_global p r ≡ g → locked p s k r ≡ answered p (with_taken s k r) 0
      go false h = rw (h, locked)
      go true h = rw (h, fits r e, locked)

  -- a task that waits for such a resource takes it at (b)
  pub waited_granted : is_waiting (task_at s k) ≡ true → length_of p k (task_at s k).waits ≡ (left_of s (owner p k)).0 → given_waited p s k ≡ with_taken s k (task_at s k).waits
  unfolding given_waited
  waited_granted w e = rw (w, fits (task_at s k).waits e, given_waited)
