-- Of a legal state, the subsystem that the code chooses is the one chosen.
use mathlib.Core.Path.{◌≡◌, refl, sym, ap, ◌∙◌}
use mathlib.Core.Logic.{⊎_elim}
use mathlib.Core.Bool.{Bool, true, false, ◌&&◌}
use Prim.Native.Nat.{ℕ, ◌≤◌, ◌<◌}
use native.Mathlib.Nat.{eq-or-lt_of_le}
use native.Mathlib.Omega.{arith}
use lib.Dec.{ltb, eqb}
use borrow.Author.Tests.{lt-ltb, le-ltb, ltb-true, ltb-false, ne_eqb}
use Rattle.below.specs.Below.{first}
use Rattle.below.proofs.Search.{first_agree, first_absent}
use Rattle.below.proofs.Least.{least_le, least_reached, first_below, first_above}
use Rattle.plan.specs.declared.Plan.{Plan}
use Rattle.plan.specs.declared.CeiledPlan.{CeiledPlan}
use Rattle.plan.specs.Limits.{no_row}
use Rattle.plan.specs.Plan.{owner, level, highest}
use Rattle.plan.specs.Ceiling.{global_ceiling}
use Rattle.state.specs.declared.State.{State}
use Rattle.state.specs.State.{task_at, left_of, has_budget, last_held, in_section}
use Rattle.choice.specs.Choice.{holds_at_ceiling, system_ceiling, ceiling_holder, chosen}
use Rattle.choice.specs.Lent.{Lent}
use Rattle.choice.specs.Columns.{section_ceiling, Found, owner_of, chosen_by}
use Rattle.choice.proofs.Columns.{owner_none, owner_there, chosen_budget, chosen_holder}
use Rattle.choice.proofs.Sections.{ceiling_row, holds_at, system_is}

-- the two cases of the definitions
module _ (p : Plan) (s : State) where
  holder_there : first p.tasks (holds_at_ceiling p s (system_ceiling p s)) < p.tasks
      → ceiling_holder p s ≡ owner p (first p.tasks (holds_at_ceiling p s (system_ceiling p s)))
  unfolding ceiling_holder
  holder_there h = rw (ceiling_holder, lt-ltb _ _ h)

  holder_none : first p.tasks (holds_at_ceiling p s (system_ceiling p s)) ≡ p.tasks → ceiling_holder p s ≡ no_row
  unfolding ceiling_holder
  holder_none e = rw (ceiling_holder, e, le-ltb p.tasks p.tasks (omega arith))

  budget_below : (m : ℕ) → system_ceiling p s ≡ m → m ≤ p.subsystems → first m (has_budget s) < m → chosen p s ≡ first m (has_budget s)
  unfolding chosen highest level
  budget_below m e l h =
      let q = first_below p.subsystems m (has_budget s) l h in
      rw (chosen, e, q, lt-ltb (first m (has_budget s)) p.subsystems (omega arith)) (rw e q)

  budget_none : (m : ℕ) → system_ceiling p s ≡ m → m ≤ p.subsystems → m ≤ first m (has_budget s) → chosen p s ≡ ceiling_holder p s
  unfolding chosen highest level
  budget_none m e l h =
      rw (chosen, e, first_above p.subsystems m (has_budget s) l h, le-ltb p.subsystems p.subsystems (omega arith))

module _ (c : CeiledPlan) (s : State) (lent : Lent c s) (m h : ℕ) (found : Found c.plan.subsystems c.plan.tasks (section_ceiling c s) m h) where
  is_system : m ≡ system_ceiling c.plan s
  is_system = found.smallest ∙ system_is c s lent

  at_most : m ≤ c.plan.subsystems
  at_most = omega (arith, found.smallest, least_le c.plan.subsystems c.plan.tasks (section_ceiling c s))

  at_ceiling_lem : first c.plan.tasks (λ j. eqb (section_ceiling c s j) m) ≡ first c.plan.tasks (holds_at_ceiling c.plan s m)
  at_ceiling_lem =
      first_agree c.plan.tasks (λ j. eqb (section_ceiling c s j) m) (holds_at_ceiling c.plan s m)
      (λ j u. holds_at c s lent m j (omega (arith, at_most, lent.accepted.subsystems_most)) u)

  -- the holder is a task with that ceiling where a global is held
  holder_is_first : m < c.plan.subsystems → h ≡ first c.plan.tasks (holds_at_ceiling c.plan s (system_ceiling c.plan s))
  holder_is_first l =
      found.of_holder l ∙ at_ceiling_lem ∙ ap (λ (x : ℕ). first c.plan.tasks (holds_at_ceiling c.plan s x)) is_system

  holder_row : m < c.plan.subsystems → h < c.plan.tasks
  holder_row l =
      rw (found.of_holder l, found.smallest)
      (least_reached c.plan.subsystems c.plan.tasks (section_ceiling c s) (rw found.smallest at l))

  holder_held : m < c.plan.subsystems → owner_of c.plan h ≡ ceiling_holder c.plan s
  unfolding owner
  holder_held l =
      owner_there c.plan h (λ e. omega (arith, holder_row l, lent.accepted.tasks_most))
      ∙ ap (owner c.plan) (holder_is_first l)
      ∙ sym (holder_there c.plan s (rw (← holder_is_first l) (holder_row l)))

  -- the ceiling of a held global is never the number of subsystems
  none_at : m ≡ c.plan.subsystems → (k : ℕ) → k < c.plan.tasks → holds_at_ceiling c.plan s m k ≡ false
  unfolding holds_at_ceiling
  none_at e k u = go (in_section c.plan (task_at s k)) refl
    where
      go : (b : Bool) → in_section c.plan (task_at s k) ≡ b → (b && eqb (global_ceiling c.plan (last_held (task_at s k))) m) ≡ false
      go true q = ne_eqb (global_ceiling c.plan (last_held (task_at s k))) m (λ r. omega (arith, ceiling_row c.plan s lent.accepted lent.legal k u q))
      go false q = refl

  holder_unheld : m ≡ c.plan.subsystems → owner_of c.plan h ≡ ceiling_holder c.plan s
  holder_unheld e =
      owner_none c.plan h (found.of_none e)
      ∙ sym (holder_none c.plan s (rw (← is_system) (first_absent c.plan.tasks (holds_at_ceiling c.plan s m) (none_at e))))

  pub chosen_is : chosen_by c.plan s m h ≡ chosen c.plan s
  unfolding has_budget left_of
  chosen_is = go (ltb (first m (has_budget s)) m) refl
    where
      go : (b : Bool) → ltb (first m (has_budget s)) m ≡ b → chosen_by c.plan s m h ≡ chosen c.plan s
      go true e =
          let l = ltb-true (first m (has_budget s)) m e in
          chosen_budget c.plan s m h l ∙ sym (budget_below c.plan s m (sym is_system) at_most l)
      go false e =
          let l = ltb-false (first m (has_budget s)) m e in
          chosen_holder c.plan s m h l
          ∙ ⊎_elim holder_unheld holder_held (eq-or-lt_of_le at_most)
          ∙ sym (budget_none c.plan s m (sym is_system) at_most l)
