-- How the loop over the tasks that bar ready ones goes on and ends.
use Prim.Native.Nat.{min}
use mathlib.Core.Path.{◌≡◌, refl, sym, ap, ◌∙◌}
use mathlib.Core.Bool.{Bool, true, false, not, ◌&&◌, and-true}
use Prim.Native.Nat.{ℕ, ◌≤◌, ◌<◌}
use native.Mathlib.Omega.{arith}
use lib.Dec.{ltb}
use borrow.Author.Tests.{lt-ltb, le-ltb, ltb-true, ltb-false}
use Rattle.below.specs.Below.{all, any}
use Rattle.below.proofs.Search.{any_of, any_absent}
use Rattle.plan.specs.declared.CeiledPlan.{CeiledPlan}
use Rattle.plan.specs.Limits.{no_row}
use Rattle.plan.specs.Plan.{owner}
use Rattle.state.specs.declared.State.{State}
use Rattle.choice.specs.Columns.{below_held, below_held_in}
use Rattle.choice.proofs.Columns.{below_other, below_own}

module _ (n k : ℕ) (kept : ℕ → Bool) (clear : ℕ → ℕ → Bool) where
  -- a task keeps every ready one from being taken
  pub ready_none : (low : ℕ) → low ≡ 0 → k < n → kept k ≡ true → (t : ℕ) → t < no_row → ltb t low ≡ (not (any n kept) && all n (clear t))
  ready_none low z h e t u = rw (any_of n kept k h e) (le-ltb t low (omega arith))

  -- no task does, and low is the lowest ceiling
  pub ready_ended : (low : ℕ) → k ≤ n → n ≤ k → ((j : ℕ) → j < k → kept j ≡ false) → ((t : ℕ) → ltb t low ≡ (ltb t no_row && all k (clear t)))
      → (t : ℕ) → t < no_row → ltb t low ≡ (not (any n kept) && all n (clear t))
  ready_ended low l h f g t u =
      let e : k ≡ n = omega arith in
      rw (any_absent n kept (λ j v. f j (rw e v)), ← e) (g t ∙ ap (λ (b : Bool). b && all k (clear t)) (lt-ltb t no_row u))

-- a row is below the smaller of two bounds exactly if it is below both
pub below_min : (t a b m : ℕ) → m ≡ min a b → ltb t m ≡ (ltb t a && ltb t b)
below_min t a b m e = go (ltb t a) (ltb t b) refl refl
  where
    go : (x y : Bool) → ltb t a ≡ x → ltb t b ≡ y → ltb t m ≡ (x && y)
    go true true p q = lt-ltb t m (omega (arith, ltb-true t a p, ltb-true t b q))
    go true false p q = le-ltb t m (omega (arith, ltb-false t b q))
    go false y p q = le-ltb t m (omega (arith, ltb-false t a p))

-- what task k adds: nothing if it is of another subsystem, else the ceilings of what it holds
module _ (c : CeiledPlan) (s : State) (d k low new : ℕ) where
  pub bar_other : (owner c.plan k ≡ d → ⊥) → new ≡ low → (t : ℕ) → ltb t new ≡ (ltb t low && below_held_in c s d t k)
  bar_other h e t = rw (e, below_other c s k d t h) (sym (and-true (ltb t low)))

  pub bar_own : owner c.plan k ≡ d → (x : ℕ) → new ≡ x → ((t : ℕ) → ltb t x ≡ (ltb t low && below_held c s t k))
      → (t : ℕ) → ltb t new ≡ (ltb t low && below_held_in c s d t k)
  bar_own h x e f t = rw (e, below_own c s k d t h) (f t)
