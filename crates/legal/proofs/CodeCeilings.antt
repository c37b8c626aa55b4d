-- Ceilings out of a list: where what is held is there, the conditions that look them up say what the definition says.
use mathlib.Core.Path.{◌≡◌, refl, ap, ◌∙◌}
use mathlib.Core.Bool.{Bool, true, false, not, ◌&&◌, ◌||◌}
use mathlib.Core.List.{List}
use Prim.Native.Nat.{ℕ, ◌-◌, ◌≤◌, ◌<◌}
use native.Mathlib.Omega.{arith}
use native.Mathlib.Nat.{lt_of_lt_of_le}
use lib.Dec.{leb, ltb, eqb}
use lib.ListN.{get_or}
use borrow.Author.Tests.{ltb-true, leb-true}
use Rattle.below.specs.Below.{all}
use Rattle.below.specs.Listed.{listed}
use Rattle.below.proofs.Tests.{conjuncts}
use Rattle.below.proofs.Search.{all_at, all_agree}
use Rattle.below.proofs.Listed.{get_or_listed}
use Rattle.plan.specs.declared.Plan.{Plan}
use Rattle.plan.specs.Plan.{owner, is_global, level, taken_before}
use Rattle.plan.specs.Ceiling.{ceiling, local_ceiling, global_ceiling}
use Rattle.plan.specs.Facts.{Accepted}
use Rattle.state.specs.declared.State.{State}
use Rattle.state.specs.State.{task_at, held_at, last_held, in_section}
use Rattle.legal.specs.Legal.{implies, held_legal, active_before, locals_legal, globals_legal, below_section, sections_legal}
use Rattle.legal.specs.Parts.{below_row, below_held, first_held, ordered, apart, apart_from}

module _ (p : Plan) (s : State) (ceilings : List ℕ) (a : Accepted p) (e : ceilings ≡ listed 16 (ceiling p)) where
  ceiling_at : (x : ℕ) → x < p.resources → get_or ceilings x 0 ≡ ceiling p x
  ceiling_at x h = rw e (get_or_listed 16 (ceiling p) x 0 (lt_of_lt_of_le h a.resources_most))

  local_at_lem : (x : ℕ) → x < p.resources → is_global p x ≡ false → get_or ceilings x 0 ≡ local_ceiling p x
  unfolding ceiling
  local_at_lem x h g = ceiling_at x h ∙ rw g

  global_at : (x : ℕ) → x < p.resources → is_global p x ≡ true → get_or ceilings x 0 ≡ global_ceiling p x
  unfolding ceiling
  global_at x h g = ceiling_at x h ∙ rw g

  module _ (held : (k : ℕ) → k < p.tasks → held_legal p k (task_at s k) ≡ true) where
    held_there : (k i : ℕ) → k < p.tasks → i < (task_at s k).count → held_at (task_at s k) i < p.resources
    unfolding held_legal
    held_there k i h l =
        let t = task_at s k in
        let e = all_at t.count _ (held k h) i l in
        ltb-true (held_at t i) p.resources (search conjuncts)

    -- the conditions that look ceilings up

    locals_by : (k : ℕ) → k < p.tasks → all (task_at s k).count (below_held p ceilings s k (task_at s k)) ≡ locals_legal p s k
    unfolding below_held below_row locals_legal
    locals_by k h = all_agree (task_at s k).count (below_held p ceilings s k (task_at s k)) _ at
      where
        at : (i : ℕ) → i < (task_at s k).count → below_held p ceilings s k (task_at s k) i
            ≡ (is_global p (held_at (task_at s k) i)
            || all p.tasks (λ j. implies (active_before p s k j) (taken_before p j (local_ceiling p (held_at (task_at s k) i)))))
        at i l = go (is_global p (held_at (task_at s k) i)) refl
          where
            go : (b : Bool) → is_global p (held_at (task_at s k) i) ≡ b
                → (b || all p.tasks (below_row p s k (get_or ceilings (held_at (task_at s k) i) 0)))
                ≡ (b || all p.tasks (λ j. implies (active_before p s k j) (taken_before p j (local_ceiling p (held_at (task_at s k) i)))))
            go true g = refl
            go false g = rw (local_at_lem (held_at (task_at s k) i) (held_there k i h l) g)

    pub ordered_is : (k : ℕ) → k < p.tasks → ordered p ceilings s k ≡ (locals_legal p s k && globals_legal p s k)
    unfolding ordered first_held globals_legal
    ordered_is k h = ap (λ (b : Bool). b && globals_legal p s k) (locals_by k h)

    -- of a task in a section: the list has the ceiling of what it took last
    section_ceiling_lem : (k : ℕ) → k < p.tasks → in_section p (task_at s k) ≡ true → get_or ceilings (last_held (task_at s k)) 0 ≡ global_ceiling p (last_held (task_at s k))
    unfolding in_section last_held
    section_ceiling_lem k h e' =
        let t = task_at s k in
        let l : 1 ≤ t.count = leb-true 1 t.count (search conjuncts) in
        global_at (held_at t (t.count - 1)) (held_there k (t.count - 1) h (omega arith)) (search conjuncts)

    apart_is : (j k : ℕ) → j < p.tasks → k < p.tasks → apart p ceilings s j k ≡ sections_legal p s j k
    unfolding apart sections_legal implies below_section
    apart_is j k hj hk = go (in_section p (task_at s j)) refl (in_section p (task_at s k)) refl
      where
        different : Bool
        different = not (eqb (owner p j) (owner p k))

        go : (a : Bool) → in_section p (task_at s j) ≡ a → (b : Bool) → in_section p (task_at s k) ≡ b
            → (not (a && b && different) || (ltb (level p (owner p j)) (get_or ceilings (last_held (task_at s k)) 0) || ltb (level p (owner p k)) (get_or ceilings (last_held (task_at s j)) 0)))
            ≡ (not (a && b && different) || (below_section p s j k || below_section p s k j))
        go false ej b ek = refl
        go true ej false ek = refl
        go true ej true ek = rw (section_ceiling_lem k hk ek, section_ceiling_lem j hj ej)

    pub apart_from_is : (j : ℕ) → j < p.tasks → apart_from p ceilings s j ≡ all p.tasks (sections_legal p s j)
    unfolding apart_from
    apart_from_is j h = all_agree p.tasks (apart p ceilings s j) (sections_legal p s j) (λ k l. apart_is j k h l)
