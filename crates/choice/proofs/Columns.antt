-- The definitions of the parts of a choice, by the tests that the code makes.
use Rattle.std.proofs.Common.{◌≡◌, ℕ, ◌≤◌, ◌<◌, true, false, get_or}
use borrow.Author.Tests.{lt-ltb, le-ltb, eq-eqb, ne_eqb}
use Rattle.below.specs.Below.{first}
use Rattle.plan.specs.declared.Plan.{Plan}
use Rattle.plan.specs.declared.CeiledPlan.{CeiledPlan}
use Rattle.plan.specs.Limits.{no_row}
use Rattle.plan.specs.Plan.{owner, is_global}
use Rattle.state.specs.declared.State.{State}
use Rattle.state.specs.State.{task_at, has_budget, held_at, last_held, in_section}
use Rattle.choice.specs.Choice.{or_no_row}
use Rattle.choice.specs.Columns.{section_ceiling, owner_of, chosen_by, local_at, below_held, below_held_in}

pub row_there : (n k : ℕ) → k < n → or_no_row n k ≡ k
unfolding or_no_row
row_there n k h = rw (or_no_row, lt-ltb k n h)

pub row_past : (n k : ℕ) → n ≤ k → or_no_row n k ≡ no_row
unfolding or_no_row
row_past n k h = rw (or_no_row, le-ltb k n h)

module _ (p : Plan) where
  pub owner_none : (h : ℕ) → h ≡ no_row → owner_of p h ≡ no_row
  unfolding owner_of
  owner_none h e = rw (owner_of, eq-eqb h no_row e)

  pub owner_there : (h : ℕ) → (h ≡ no_row → ⊥) → owner_of p h ≡ owner p h
  unfolding owner_of
  owner_there h e = rw (owner_of, ne_eqb h no_row e)

  module _ (s : State) (m h : ℕ) where
    pub chosen_budget : first m (has_budget s) < m → chosen_by p s m h ≡ first m (has_budget s)
    unfolding chosen_by
    chosen_budget l = rw (chosen_by, lt-ltb (first m (has_budget s)) m l)

    pub chosen_holder : m ≤ first m (has_budget s) → chosen_by p s m h ≡ owner_of p h
    unfolding chosen_by
    chosen_holder l = rw (chosen_by, le-ltb (first m (has_budget s)) m l)

module _ (c : CeiledPlan) (s : State) (k : ℕ) where
  pub ceiling_in : in_section c.plan (task_at s k) ≡ true → section_ceiling c s k ≡ get_or c.ceilings (last_held (task_at s k)) 0
  unfolding section_ceiling
  ceiling_in e = rw (section_ceiling, e)

  pub ceiling_out : in_section c.plan (task_at s k) ≡ false → section_ceiling c s k ≡ no_row
  unfolding section_ceiling
  ceiling_out e = rw (section_ceiling, e)

  pub local_global : (i : ℕ) → is_global c.plan (held_at (task_at s k) i) ≡ true → local_at c s k i ≡ no_row
  unfolding local_at
  local_global i e = rw (local_at, e)

  pub local_local : (i : ℕ) → is_global c.plan (held_at (task_at s k) i) ≡ false → local_at c s k i ≡ get_or c.ceilings (held_at (task_at s k) i) 0
  unfolding local_at
  local_local i e = rw (local_at, e)

  module _ (subsystem t : ℕ) where
    pub below_other : (owner c.plan k ≡ subsystem → ⊥) → below_held_in c s subsystem t k ≡ true
    unfolding below_held_in
    below_other h = rw (below_held_in, ne_eqb (owner c.plan k) subsystem h)

    pub below_own : owner c.plan k ≡ subsystem → below_held_in c s subsystem t k ≡ below_held c s t k
    unfolding below_held_in
    below_own e = rw (below_held_in, eq-eqb (owner c.plan k) subsystem e)
