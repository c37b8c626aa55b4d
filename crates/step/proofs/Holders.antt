-- "State" and "Events": no resource has two holders, and a lock or step (b) never finds its resource held.
use mathlib.Core.Path.{◌≡◌, refl, sym, ◌∙◌}
use mathlib.Core.Logic.{◌≢◌, ◌⊎◌, inl, inr, ⊎_elim}
use mathlib.Core.Bool.{Bool, true, false}
use Prim.Native.Nat.{ℕ, ◌<◌}
use native.Mathlib.Omega.{arith}
use lib.Dec.{eqb}
use borrow.Author.Tests.{eqb-true, eqb-false}
use Rattle.below.proofs.Tests.{decided, clash, fails}
use Rattle.plan.specs.declared.Plan.{Plan}
use Rattle.plan.specs.Plan.{owner, is_global, declares, level, taken_before}
use Rattle.plan.specs.Ceiling.{global_ceiling}
use Rattle.plan.specs.Facts.{Accepted}
use Rattle.plan.proofs.Order.{before_total}
use Rattle.plan.proofs.CeilingLaws.{global_ceiling_most, local_ceiling_first}
use Rattle.state.specs.declared.Task.{Task}
use Rattle.state.specs.declared.State.{State}
use Rattle.state.specs.State.{task_at, is_active, holds, last_held, in_section}
use Rattle.state.specs.Sized.{Sized}
use Rattle.legal.specs.Facts.{Legal}
use Rattle.legal.proofs.Tasks.{section_engaged, HeldPlace, holds_place, holder_active, global_section, engaged_one}
use Rattle.legal.proofs.Parts.{Ahead, Under, legal_tasks}
use Rattle.choice.specs.Choice.{chosen}
use Rattle.choice.proofs.Taken.{Takes}
use Rattle.choice.proofs.Running.{running_takes}
use Rattle.step.specs.Refusals.{lock, refusal}
use Rattle.step.proofs.Kept.{Kept}
use Rattle.step.proofs.Taking.{outside_under}
use Rattle.step.proofs.Refusals.{lock_passed}

-- what it says that task k holds r
module _ (p : Plan) (s : State) (L : Legal p s) (k r : ℕ) (h : k < p.tasks) (w : HeldPlace (task_at s k) r) where
  -- r is there
  held_there : r < p.resources
  held_there = rw w.is at ((L.task k h).held w.place w.within).there

  -- k declares it
  held_declared : declares p k r ≡ true
  held_declared = rw w.is at ((L.task k h).held w.place w.within).declared

  -- k is started or waiting
  held_active : is_active (task_at s k) ≡ true
  held_active = holder_active p k (task_at s k) (L.task k h) (omega (arith, w.within))

  -- with a global k is inside a section
  held_inside : is_global p r ≡ true → in_section p (task_at s k) ≡ true
  held_inside g = (global_section p k (task_at s k) (L.task k h) w.place w.within (rw w.is g)).0

  -- and it is the last
  held_last : is_global p r ≡ true → last_held (task_at s k) ≡ r
  held_last g = (global_section p k (task_at s k) (L.task k h) w.place w.within (rw w.is g)).1 ∙ w.is

  -- no declarer of a local resource that is held is ahead of its holder
  held_local : is_global p r ≡ false → (j : ℕ) → j < p.tasks → declares p j r ≡ true → Ahead p (task_at s) j k → ⊥
  held_local g j l d a =
      clash (rw w.is at ((legal_tasks p s L).locals k w.place h w.within (rw w.is g) j l a)) (local_ceiling_first p j r l d)

-- no subsystem of a declarer lies below the ceiling of a global
above_ceiling : (p : Plan) (j r : ℕ) (t : Task) → j < p.tasks → declares p j r ≡ true → last_held t ≡ r → Under p j t → ⊥
above_ceiling p j r t l d e u =
    let v : level p (owner p j) < global_ceiling p r = rw e at u in
    omega (arith, global_ceiling_most p j r l d)

module _ (p : Plan) (s : State) (A : Accepted p) (L : Legal p s) (r : ℕ) where
  -- two holders of a local resource
  one_local : (j k : ℕ) → j < p.tasks → k < p.tasks → HeldPlace (task_at s j) r → HeldPlace (task_at s k) r → is_global p r ≡ false → j ≡ k
  one_local j k a b v w g = before_total p j k (first j k a b v w (owners j k a b v w)) (first k j b a w v (owners k j b a w v))
    where
      owners : (j k : ℕ) → j < p.tasks → k < p.tasks → HeldPlace (task_at s j) r → HeldPlace (task_at s k) r → owner p j ≡ owner p k
      owners j k a b v w = A.one_subsystem r j k (held_there p s L j r a v) a b g (held_declared p s L j r a v) (held_declared p s L k r b w)

      first : (j k : ℕ) → j < p.tasks → k < p.tasks → HeldPlace (task_at s j) r → HeldPlace (task_at s k) r → owner p j ≡ owner p k → taken_before p j k ≡ false
      first j k a b v w o =
          fails _ (λ e. held_local p s L k r b w g j a (held_declared p s L j r a v) (record { owned = o; before = e; active = held_active p s L j r a v }))

  -- two holders of a global one
  one_global : (j k : ℕ) → j < p.tasks → k < p.tasks → HeldPlace (task_at s j) r → HeldPlace (task_at s k) r → is_global p r ≡ true → j ≡ k
  one_global j k a b v w g = go (eqb (owner p j) (owner p k)) refl
    where
      i : in_section p (task_at s j) ≡ true
      i = held_inside p s L j r a v g

      m : in_section p (task_at s k) ≡ true
      m = held_inside p s L k r b w g

      go : (o : Bool) → eqb (owner p j) (owner p k) ≡ o → j ≡ k
      go true o =
          engaged_one p (task_at s) (legal_tasks p s L) j k a b (section_engaged p (task_at s j) i) (section_engaged p (task_at s k) m) (eqb-true _ _ o)
      go false o =
          absurd
          (⊎_elim (above_ceiling p j r (task_at s k) a (held_declared p s L j r a v) (held_last p s L k r b w g))
          (above_ceiling p k r (task_at s j) b (held_declared p s L k r b w) (held_last p s L j r a v g))
          ((legal_tasks p s L).sections j k a b i m (eqb-false _ _ o)))

  -- no resource has two holders
  pub one_holder : (j k : ℕ) → j < p.tasks → k < p.tasks → holds (task_at s j) r ≡ true → holds (task_at s k) r ≡ true → j ≡ k
  one_holder j k a b e f =
      ⊎_elim (one_global j k a b (holds_place _ r e) (holds_place _ r f)) (one_local j k a b (holds_place _ r e) (holds_place _ r f)) (decided (is_global p r))

module _ (p : Plan) (s : State) (A : Accepted p) (S : Kept p s) (k r : ℕ) (K : Takes p (task_at s) (chosen p s) k)
    (out : in_section p (task_at s k) ≡ false) (declared : declares p k r ≡ true) (free : holds (task_at s k) r ≡ false) where
  -- the chosen task, outside sections, finds free what it declares and does not hold
  held_elsewhere : (j : ℕ) → j < p.tasks → holds (task_at s j) r ≡ true → ⊥
  held_elsewhere j l e = go (decided (is_global p r))
    where
      w : HeldPlace (task_at s j) r
      w = holds_place (task_at s j) r e

      other : j ≢ k
      other q = clash (rw q at e) free

      owners : is_global p r ≡ false → owner p k ≡ owner p j
      owners g = A.one_subsystem r k j (held_there p s S.legal j r l w) K.there l g declared (held_declared p s S.legal j r l w)

      local : is_global p r ≡ false → (taken_before p k j ≡ true) ⊎ (taken_before p k j ≡ false) → ⊥
      local g (inl b) =
          ⊎_elim (λ a. held_local p s S.legal j r l w g k K.there declared (record { owned = owners g; before = b; active = a }))
          (λ u. clash (rw w.is at (u.below j w.place l (sym (owners g) ∙ K.owned) w.within (rw w.is g))) (local_ceiling_first p k r K.there declared))
          K.may
      local g (inr b) = other (before_total p j k (K.first j l (sym (owners g) ∙ K.owned) (held_active p s S.legal j r l w)) b)

      go : (is_global p r ≡ true) ⊎ (is_global p r ≡ false) → ⊥
      go (inl g) =
          above_ceiling p k r (task_at s j) K.there declared (held_last p s S.legal j r l w g)
          (outside_under p s A S k K out j l (held_inside p s S.legal j r l w g))
      go (inr g) = local g (decided (taken_before p k j))

  -- so nobody holds it
  pub finds_free : (j : ℕ) → j < p.tasks → holds (task_at s j) r ≡ false
  finds_free j l = fails _ (held_elsewhere j l)

-- a lock that gets none of 2 to 9 never finds its resource held
pub lock_finds_free : (p : Plan) (s : State) → Accepted p → Sized s → Legal p s → (k r : ℕ) → refusal p s lock k r ≡ 0 → (j : ℕ) → j < p.tasks → holds (task_at s j) r ≡ false
lock_finds_free p s A Z L k r e j l =
    let P = lock_passed p s k r e in
    finds_free p s A (record { sized = Z; legal = L }) k r (running_takes p s A k P.there P.runs) P.outside P.declared P.free j l
