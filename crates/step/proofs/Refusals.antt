-- "Events": what an event that gets none of its refusals has passed.
use mathlib.Core.Path.{◌≡◌, refl}
use mathlib.Core.Bool.{Bool, true, false}
use mathlib.Core.List.{List, [], ◌∷◌}
use Prim.Native.Nat.{ℕ, ◌≤◌, ◌<◌}
use native.Mathlib.Omega.{arith}
use lib.Dec.{leb, eqb}
use borrow.Author.Tests.{leb-false, eqb-true, eqb-false, not-false}
use Rattle.below.proofs.Tests.{or_no_left, or_no_right}
use Rattle.plan.specs.declared.Plan.{Plan}
use Rattle.plan.specs.Plan.{declares}
use Rattle.state.specs.declared.State.{State}
use Rattle.state.specs.State.{most_held, task_at, is_idle, holds, last_held, in_section}
use Rattle.choice.specs.Choice.{running}
use Rattle.step.specs.Refusals.{release, lock, unlock, end, order_table, uses_resource, no_such_row, not_idle, not_running, not_declared, holds_already, not_last, still_holding, fifth_held, tests, refuses, first_refusal, refusal}

-- the first of a row does not apply, and none of the rest
next_passed : (f : ℕ → Bool) (n : ℕ) (ns : List ℕ) → first_refusal f (n ∷ ns) ≡ 0 → 0 < n → (f n ≡ false) × (first_refusal f ns ≡ 0)
unfolding first_refusal
next_passed f n ns e h = go (f n) refl e
  where
    go : (b : Bool) → f n ≡ b → ◌≡◌ {A = ℕ} (elim b [ true ↦ n | false ↦ first_refusal f ns ]) 0 → (f n ≡ false) × (first_refusal f ns ≡ 0)
    go true q z = absurd (omega arith)
    go false q z = (q, z)

-- what a lock has passed
pub record Lockable (p : Plan) (s : State) (k r : ℕ) : Type 0 where
  pub there : k < p.tasks
  pub resource : r < p.resources
  pub runs : running p s ≡ k
  pub declared : declares p k r ≡ true
  pub outside : in_section p (task_at s k) ≡ false
  pub free : holds (task_at s k) r ≡ false
  pub room : (task_at s k).count < most_held

-- what an unlock has passed
pub record Unlockable (p : Plan) (s : State) (k r : ℕ) : Type 0 where
  pub there : k < p.tasks
  pub runs : running p s ≡ k
  pub some : 1 ≤ (task_at s k).count
  pub last : last_held (task_at s k) ≡ r

-- what an end has passed
pub record Endable (p : Plan) (s : State) (k : ℕ) : Type 0 where
  pub there : k < p.tasks
  pub runs : running p s ≡ k
  pub free : (task_at s k).count ≡ 0

module _ (p : Plan) (s : State) (k r : ℕ) where
  -- 2
  task_there : (kind : ℕ) → no_such_row p kind k r ≡ false → k < p.tasks
  unfolding no_such_row
  task_there kind e = leb-false p.tasks k (or_no_left _ _ e)

  -- and for a lock or an unlock
  resource_there : (kind : ℕ) → uses_resource kind ≡ true → no_such_row p kind k r ≡ false → r < p.resources
  unfolding no_such_row
  resource_there kind u e = leb-false p.resources r (rw u at (or_no_right (leb p.tasks k) _ e))

  -- 4
  is_running : not_running p s k ≡ false → running p s ≡ k
  unfolding not_running
  is_running e = eqb-true (running p s) k (not-false _ e)

  -- 2 3
  pub release_passed : refusal p s release k r ≡ 0 → (k < p.tasks) × (is_idle (task_at s k) ≡ true)
  unfolding refusal order_table refuses tests not_idle
  release_passed e =
      let f = refuses p s release k r in
      let a = next_passed f 2 (3 ∷ []) e (omega arith) in
      let b = next_passed f 3 [] a.1 (omega arith) in
      (task_there release a.0, not-false _ b.0)

  -- 2 4 5 6 9
  pub lock_passed : refusal p s lock k r ≡ 0 → Lockable p s k r
  unfolding refusal order_table refuses tests not_declared holds_already fifth_held uses_resource
  lock_passed e =
      let f = refuses p s lock k r in
      let a = next_passed f 2 (4 ∷ 5 ∷ 6 ∷ 9 ∷ []) e (omega arith) in
      let b = next_passed f 4 (5 ∷ 6 ∷ 9 ∷ []) a.1 (omega arith) in
      let c = next_passed f 5 (6 ∷ 9 ∷ []) b.1 (omega arith) in
      let d = next_passed f 6 (9 ∷ []) c.1 (omega arith) in
      let g = next_passed f 9 [] d.1 (omega arith) in
      record {
        there = task_there lock a.0;
        resource = resource_there lock refl a.0;
        runs = is_running b.0;
        declared = not-false _ c.0;
        outside = or_no_left _ _ d.0;
        free = or_no_right (in_section p (task_at s k)) _ d.0;
        room = leb-false most_held _ g.0;
      }

  -- 2 4 7
  pub unlock_passed : refusal p s unlock k r ≡ 0 → Unlockable p s k r
  unfolding refusal order_table refuses tests not_last
  unlock_passed e =
      let f = refuses p s unlock k r in
      let a = next_passed f 2 (4 ∷ 7 ∷ []) e (omega arith) in
      let b = next_passed f 4 (7 ∷ []) a.1 (omega arith) in
      let c = next_passed f 7 [] b.1 (omega arith) in
      record {
        there = task_there unlock a.0;
        runs = is_running b.0;
        some = whole (or_no_left (eqb (task_at s k).count 0) _ c.0);
        last = eqb-true _ _ (not-false _ (or_no_right (eqb (task_at s k).count 0) _ c.0));
      }
    where
      whole : eqb (task_at s k).count 0 ≡ false → 1 ≤ (task_at s k).count
      whole z = omega (arith, eqb-false (task_at s k).count 0 z)

  -- 2 4 8
  pub end_passed : refusal p s end k r ≡ 0 → Endable p s k
  unfolding refusal order_table refuses tests still_holding
  end_passed e =
      let f = refuses p s end k r in
      let a = next_passed f 2 (4 ∷ 8 ∷ []) e (omega arith) in
      let b = next_passed f 4 (8 ∷ []) a.1 (omega arith) in
      let c = next_passed f 8 [] b.1 (omega arith) in
      record { there = task_there end a.0; runs = is_running b.0; free = omega (arith, leb-false 1 (task_at s k).count c.0) }
