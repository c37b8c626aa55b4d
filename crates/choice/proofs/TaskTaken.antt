-- Of a legal state, the task that the code takes in a subsystem is the one taken.
use mathlib.Core.Path.{◌≡◌, refl, sym, ap, ◌∙◌}
use mathlib.Core.Bool.{Bool, true, false, not, ◌&&◌, ◌||◌, and_assoc}
use Prim.Native.Nat.{ℕ, ◌<◌}
use native.Mathlib.Omega.{arith}
use lib.Dec.{ltb, eqb}
use borrow.Author.Tests.{lt-ltb}
use Rattle.below.specs.Below.{all, first}
use Rattle.below.proofs.Search.{all_agree, first_agree}
use Rattle.plan.specs.declared.CeiledPlan.{CeiledPlan}
use Rattle.plan.specs.Limits.{no_row}
use Rattle.plan.specs.Plan.{owner, is_global, taken_before, foremost}
use Rattle.plan.specs.Ceiling.{local_ceiling}
use Rattle.state.specs.declared.State.{State}
use Rattle.state.specs.State.{task_at, is_ready, is_active, held_at}
use Rattle.choice.specs.Lent.{Lent}
use Rattle.choice.specs.Choice.{or_no_row, below_locals, kept_from_ready, may_be_taken, taken}
use Rattle.choice.specs.Columns.{local_at, below_held, below_held_in, unbarred, taken_below}
use Rattle.choice.proofs.Columns.{local_global, local_local}
use Rattle.choice.proofs.Sections.{ceiling_local, ceiling_read}

module _ (c : CeiledPlan) (s : State) (lent : Lent c s) where
  -- t is below the ceiling of the i-th resource that task k holds, if that is local
  below_one : (t k i : ℕ) → t < no_row → k < c.plan.tasks → i < (task_at s k).count
      → ltb t (local_at c s k i)
      ≡ (is_global c.plan (held_at (task_at s k) i) || taken_before c.plan t (local_ceiling c.plan (held_at (task_at s k) i)))
  unfolding taken_before
  below_one t k i u h l = go (is_global c.plan (held_at (task_at s k) i)) refl
    where
      go : (b : Bool) → is_global c.plan (held_at (task_at s k) i) ≡ b
          → ltb t (local_at c s k i) ≡ (b || ltb t (local_ceiling c.plan (held_at (task_at s k) i)))
      go true e = ap (ltb t) (local_global c s k i e) ∙ lt-ltb t no_row u
      go false e =
          ap (ltb t)
          (local_local c s k i e
          ∙ ceiling_read c s lent (held_at (task_at s k) i) ((lent.legal.task k h).held i l).there
          ∙ ceiling_local c.plan (held_at (task_at s k) i) e)

  below_is : (d t : ℕ) → t < no_row → all c.plan.tasks (below_held_in c s d t) ≡ below_locals c.plan s d t
  unfolding below_held_in below_held below_locals
  below_is d t u =
      all_agree c.plan.tasks _ _
      (λ k h. ap (λ (b : Bool). not (eqb (owner c.plan k) d) || b) (all_agree (task_at s k).count _ _ (λ i l. below_one t k i u h l)))

  module _ (d low : ℕ) (ready : (t : ℕ) → t < no_row → ltb t low ≡ unbarred c s d t) where
    may_is : (t : ℕ) → t < c.plan.tasks → taken_below c.plan s d low t ≡ may_be_taken c.plan s d t
    unfolding taken_below may_be_taken
    may_is t h =
        let u : t < no_row = omega (arith, lent.accepted.tasks_most) in
        ap (λ (b : Bool). eqb (owner c.plan t) d && (is_active (task_at s t) || b))
        (ap (λ (b : Bool). is_ready (task_at s t) && b) (ready t u ∙ rw (below_is d t u))
        ∙ sym (and_assoc (is_ready (task_at s t)) (not (kept_from_ready c.plan s d)) (below_locals c.plan s d t)))

    pub taken_is : or_no_row c.plan.tasks (first c.plan.tasks (taken_below c.plan s d low)) ≡ taken c.plan s d
    unfolding taken foremost
    taken_is = ap (or_no_row c.plan.tasks) (first_agree c.plan.tasks (taken_below c.plan s d low) (may_be_taken c.plan s d) may_is)
