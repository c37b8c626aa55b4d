-- Of a legal state, what the loop over the sections finds is the system ceiling and its holder.
use mathlib.Core.Path.{◌≡◌, refl, ap, ◌∙◌}
use mathlib.Core.Bool.{Bool, true, false, ◌&&◌, and-eq-true_iff}
use Prim.Native.Nat.{ℕ, ◌-◌, ◌≤◌, ◌<◌}
use native.Mathlib.Omega.{arith}
use lib.Dec.{leb, eqb}
use lib.ListN.{get_or}
use borrow.Author.Tests.{leb-true, eq-eqb, ne_eqb}
use Rattle.below.specs.Below.{any}
use Rattle.below.specs.Least.{least}
use Rattle.below.proofs.Search.{any_of, any_agree, first_agree, first_most}
use Rattle.plan.specs.declared.Plan.{Plan}
use Rattle.plan.specs.declared.CeiledPlan.{CeiledPlan}
use Rattle.plan.specs.Limits.{no_row}
use Rattle.plan.specs.Plan.{owner, is_global, declares, level}
use Rattle.plan.specs.Ceiling.{local_ceiling, global_ceiling, ceiling}
use Rattle.plan.specs.Facts.{Accepted}
use Rattle.state.specs.declared.Task.{Task}
use Rattle.state.specs.declared.State.{State}
use Rattle.state.specs.State.{task_at, last_held, in_section}
use Rattle.legal.specs.Facts.{Legal, HeldLegal}
use Rattle.choice.specs.Choice.{holds_at_ceiling, system_ceiling}
use Rattle.choice.specs.Lent.{Lent}
use Rattle.choice.specs.Columns.{section_ceiling}
use Rattle.choice.proofs.Columns.{ceiling_in, ceiling_out}

-- a task in a section holds a resource, and the last one is global
module _ (p : Plan) (t : Task) (e : in_section p t ≡ true) where
  pub section_held : 1 ≤ t.count
  unfolding in_section
  section_held = leb-true 1 t.count ((and-eq-true_iff (leb 1 t.count) (is_global p (last_held t))).0 e).0

  pub section_global : is_global p (last_held t) ≡ true
  unfolding in_section
  section_global = ((and-eq-true_iff (leb 1 t.count) (is_global p (last_held t))).0 e).1

pub ceiling_global : (p : Plan) (r : ℕ) → is_global p r ≡ true → ceiling p r ≡ global_ceiling p r
unfolding ceiling
ceiling_global p r e = rw (ceiling, e)

pub ceiling_local : (p : Plan) (r : ℕ) → is_global p r ≡ false → ceiling p r ≡ local_ceiling p r
unfolding ceiling
ceiling_local p r e = rw (ceiling, e)

module _ (p : Plan) (s : State) (accepted : Accepted p) (legal : Legal p s) where
  -- what a task holds last
  last_legal : (k : ℕ) → k < p.tasks → in_section p (task_at s k) ≡ true → HeldLegal p k (task_at s k) ((task_at s k).count - 1)
  last_legal k h e = (legal.task k h).held ((task_at s k).count - 1) (omega (arith, section_held p (task_at s k) e))

  -- the ceiling of a held global is a row: the holder declares it
  pub ceiling_row : (k : ℕ) → k < p.tasks → in_section p (task_at s k) ≡ true → global_ceiling p (last_held (task_at s k)) < p.subsystems
  unfolding global_ceiling level last_held
  ceiling_row k h e =
      omega (
        arith,
        accepted.owner_there k h,
        first_most p.subsystems
            (λ l. any p.tasks (λ t. eqb (level p (owner p t)) l && declares p t (last_held (task_at s k))))
            (owner p k)
            (any_of p.tasks (λ t. eqb (level p (owner p t)) (owner p k) && declares p t (last_held (task_at s k))) k h
            (rw (eq-eqb (owner p k) (owner p k) refl) (last_legal k h e).declared)),
      )

module _ (c : CeiledPlan) (s : State) (lent : Lent c s) where
  pub ceiling_read : (r : ℕ) → r < c.plan.resources → get_or c.ceilings r 0 ≡ ceiling c.plan r
  ceiling_read r h = lent.ceilings r h

  lent_in : (k : ℕ) → k < c.plan.tasks → in_section c.plan (task_at s k) ≡ true → section_ceiling c s k ≡ global_ceiling c.plan (last_held (task_at s k))
  unfolding last_held
  lent_in k h e =
      ceiling_in c s k e
      ∙ ceiling_read (last_held (task_at s k)) (last_legal c.plan s lent.accepted lent.legal k h e).there
      ∙ ceiling_global c.plan (last_held (task_at s k)) (section_global c.plan (task_at s k) e)

  -- task k holds a global whose ceiling is l
  pub holds_at : (l k : ℕ) → l < no_row → k < c.plan.tasks → eqb (section_ceiling c s k) l ≡ holds_at_ceiling c.plan s l k
  unfolding holds_at_ceiling
  holds_at l k u h = go (in_section c.plan (task_at s k)) refl
    where
      go : (b : Bool) → in_section c.plan (task_at s k) ≡ b
          → eqb (section_ceiling c s k) l ≡ (b && eqb (global_ceiling c.plan (last_held (task_at s k))) l)
      go true e = ap (λ (x : ℕ). eqb x l) (lent_in k h e)
      go false e = ap (λ (x : ℕ). eqb x l) (ceiling_out c s k e) ∙ ne_eqb no_row l (λ q. omega arith)

  pub system_is : least c.plan.subsystems c.plan.tasks (section_ceiling c s) ≡ system_ceiling c.plan s
  unfolding least system_ceiling
  system_is =
      first_agree c.plan.subsystems
      (λ l. any c.plan.tasks (λ k. eqb (section_ceiling c s k) l))
      (λ l. any c.plan.tasks (holds_at_ceiling c.plan s l))
      (λ l u. any_agree c.plan.tasks (λ k. eqb (section_ceiling c s k) l) (holds_at_ceiling c.plan s l)
      (λ k h. holds_at l k (omega (arith, lent.accepted.subsystems_most)) h))
