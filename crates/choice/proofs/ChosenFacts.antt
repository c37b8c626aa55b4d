-- "Who is chosen": the subsystem. It has budget left and lies below the ceiling of every held global; or it is the holder at the system ceiling, which no row
-- with budget left lies below; or there is none, no global is held and no budget is left.
use mathlib.Core.Path.{◌≡◌, refl}
use mathlib.Core.Logic.{◌≢◌, ◌⊎◌, inl, inr, ⊎_elim}
use mathlib.Core.Bool.{Bool, true, false, ◌&&◌}
use Prim.Native.Nat.{ℕ, ◌≤◌, ◌<◌}
use native.Mathlib.Omega.{arith}
use lib.Dec.{ltb}
use borrow.Author.Tests.{ltb-true, lt-ltb, le-ltb, eqb-true, eq-eqb}
use Rattle.below.specs.Below.{first}
use Rattle.below.proofs.Search.{any_of, any_true, first_passes, first_most}
use Rattle.below.proofs.Tests.{clash, fails, conjuncts}
use Rattle.plan.specs.declared.Plan.{Plan}
use Rattle.plan.specs.Limits.{no_row}
use Rattle.plan.specs.Plan.{owner, level, highest}
use Rattle.plan.specs.Ceiling.{global_ceiling}
use Rattle.plan.specs.Facts.{Accepted}
use Rattle.plan.proofs.Order.{level_there, highest_passes, highest_none, highest_first}
use Rattle.plan.proofs.CeilingLaws.{global_ceiling_there}
use Rattle.plan.proofs.Facts.{row_there}
use Rattle.state.specs.declared.State.{State}
use Rattle.state.specs.State.{task_at, left_of, has_budget, last_held, in_section}
use Rattle.legal.specs.Facts.{Legal}
use Rattle.legal.proofs.Tasks.{section_engaged, section_declares}
use Rattle.legal.proofs.Parts.{legal_tasks}
use Rattle.choice.specs.Choice.{holds_at_ceiling, system_ceiling, ceiling_holder, chosen, taken}
use Rattle.choice.proofs.Taken.{taken_engaged}

-- the ceiling of the global that task k holds
abbrev pub held_ceiling : Plan → State → ℕ → ℕ
held_ceiling p s k = global_ceiling p (last_held (task_at s k))

-- subsystem c has budget left, lies below the ceiling of every held global, and no row with budget left has a smaller level
pub record ByLevel (p : Plan) (s : State) (c : ℕ) : Type 0 where
  pub there : c < p.subsystems
  pub budget : 0 < (left_of s c).0
  pub under : (h : ℕ) → h < p.tasks → in_section p (task_at s h) ≡ true → level p c < held_ceiling p s h
  pub highest : (d : ℕ) → d < p.subsystems → 0 < (left_of s d).0 → level p c ≤ level p d

-- subsystem c has a task inside a section whose ceiling is the system ceiling, and no row with budget left is below it
pub record ByHolding (p : Plan) (s : State) (c : ℕ) : Type 0 where
  pub holder : ℕ
  pub there : holder < p.tasks
  pub owned : owner p holder ≡ c
  pub inside : in_section p (task_at s holder) ≡ true
  pub lowest : (h : ℕ) → h < p.tasks → in_section p (task_at s h) ≡ true → held_ceiling p s holder ≤ held_ceiling p s h
  pub not_below : (d : ℕ) → d < p.subsystems → 0 < (left_of s d).0 → held_ceiling p s holder ≤ level p d

-- its task is the one taken there
pub holder_taken : (p : Plan) (s : State) → Legal p s → (c : ℕ) → (H : ByHolding p s c) → taken p s c ≡ H.holder
holder_taken p s L c H =
    taken_engaged p s c (legal_tasks p s L) H.holder H.there H.owned (section_engaged p (task_at s H.holder) H.inside)

-- no global is held and no budget is left
pub record Nobody (p : Plan) (s : State) (c : ℕ) : Type 0 where
  pub none : c ≡ no_row
  pub no_section : (h : ℕ) → h < p.tasks → in_section p (task_at s h) ≡ false
  pub no_budget : (d : ℕ) → d < p.subsystems → (left_of s d).0 ≡ 0

pub data Chosen (p : Plan) (s : State) (c : ℕ) : Type 0 where
  by_level : ByLevel p s c → Chosen p s c
  by_holding : ByHolding p s c → Chosen p s c
  nobody : Nobody p s c → Chosen p s c

module _ (p : Plan) (s : State) (A : Accepted p) (L : Legal p s) where
  -- a held ceiling is at least the system ceiling

  holds_at : (h : ℕ) → in_section p (task_at s h) ≡ true → holds_at_ceiling p s (held_ceiling p s h) h ≡ true
  unfolding holds_at_ceiling
  holds_at h i = rw (i, eq-eqb (held_ceiling p s h) _ refl)

  ceiling_lowest : (h : ℕ) → h < p.tasks → in_section p (task_at s h) ≡ true → system_ceiling p s ≤ held_ceiling p s h
  unfolding system_ceiling
  ceiling_lowest h l i = first_most p.subsystems _ (held_ceiling p s h) (any_of p.tasks _ h l (holds_at h i))

  -- the row that is looked for first
  lower : ℕ → Bool
  lower c = has_budget s c && ltb (level p c) (system_ceiling p s)

  -- where one is found it is chosen
  chosen_lower : highest p lower < p.subsystems → chosen p s ≡ highest p lower
  unfolding chosen lower
  chosen_lower h = rw (lt-ltb (highest p lower) _ h, chosen)

  -- otherwise the holder is
  chosen_holder : p.subsystems ≤ highest p lower → chosen p s ≡ ceiling_holder p s
  unfolding chosen lower
  chosen_holder h = rw (le-ltb (highest p lower) _ h, chosen)

  -- what the search asks of a row
  lower_facts : (c : ℕ) → lower c ≡ true → (0 < (left_of s c).0) × (level p c < system_ceiling p s)
  unfolding lower has_budget
  lower_facts c e = (ltb-true 0 _ (search conjuncts), ltb-true _ _ (search conjuncts))

  -- and back
  facts_lower : (c : ℕ) → 0 < (left_of s c).0 → level p c < system_ceiling p s → lower c ≡ true
  unfolding lower has_budget
  facts_lower c b l = rw (lt-ltb 0 _ b, lt-ltb _ _ l)

  -- the row found
  found_lower : highest p lower < p.subsystems → ByLevel p s (highest p lower)
  found_lower h =
      let v = lower_facts (highest p lower) (highest_passes p lower h) in
      record { there = h; budget = v.0; under = λ k l i. omega (arith, v.1, ceiling_lowest k l i); highest = first_level v.1 }
    where
      first_level : level p (highest p lower) < system_ceiling p s → (d : ℕ) → d < p.subsystems → 0 < (left_of s d).0 → level p (highest p lower) ≤ level p d
      first_level v d l b = ⊎_elim (λ u. highest_first p lower d l (facts_lower d b u)) (λ u. omega arith) (row_there (level p d) (system_ceiling p s))

  -- none is found: no row with budget left is below the system ceiling
  not_lower : p.subsystems ≤ highest p lower → (d : ℕ) → d < p.subsystems → 0 < (left_of s d).0 → system_ceiling p s ≤ level p d
  not_lower h d l b =
      ⊎_elim (λ u. absurd (clash (facts_lower d b u) (highest_none p lower h d l))) (λ u. u) (row_there (level p d) (system_ceiling p s))

  -- the task looked for then
  at_ceiling : ℕ
  at_ceiling = first p.tasks (holds_at_ceiling p s (system_ceiling p s))

  -- where one is found its subsystem is the holder
  holder_there : at_ceiling < p.tasks → ceiling_holder p s ≡ owner p at_ceiling
  unfolding ceiling_holder at_ceiling
  holder_there h = rw (lt-ltb at_ceiling _ h, ceiling_holder)

  -- otherwise there is none
  holder_none : p.tasks ≤ at_ceiling → ceiling_holder p s ≡ no_row
  unfolding ceiling_holder at_ceiling
  holder_none h = rw (le-ltb at_ceiling _ h, ceiling_holder)

  -- the task found
  holder_facts : at_ceiling < p.tasks → (in_section p (task_at s at_ceiling) ≡ true) × (held_ceiling p s at_ceiling ≡ system_ceiling p s)
  unfolding at_ceiling holds_at_ceiling
  holder_facts h =
      let v = first_passes p.tasks (holds_at_ceiling p s (system_ceiling p s)) h in
      (search conjuncts, eqb-true _ _ (search conjuncts))

  -- its subsystem
  found_holder : p.subsystems ≤ highest p lower → at_ceiling < p.tasks → ByHolding p s (owner p at_ceiling)
  found_holder n h =
      let v = holder_facts h in
      record {
        holder = at_ceiling;
        there = h;
        owned = refl;
        inside = v.0;
        lowest = λ k l i. omega (arith, v.1, ceiling_lowest k l i);
        not_below = λ d l b. omega (arith, v.1, not_lower n d l b);
      }

  -- a system ceiling that is a level is the ceiling of a held global
  ceiling_held : system_ceiling p s < p.subsystems → at_ceiling < p.tasks
  unfolding at_ceiling system_ceiling
  ceiling_held h =
      let w = any_true p.tasks _ (first_passes p.subsystems _ h) in
      omega (arith, first_most p.tasks (holds_at_ceiling p s (system_ceiling p s)) w.at w.passes, w.there)

  -- where a global is held, the system ceiling is one
  section_ceiling_lem : (h : ℕ) → h < p.tasks → in_section p (task_at s h) ≡ true → system_ceiling p s < p.subsystems
  section_ceiling_lem h l i =
      omega
      (arith, ceiling_lowest h l i, global_ceiling_there p h (last_held (task_at s h)) l (section_declares p h (task_at s h) (L.task h l) i) A)

  -- nothing found in either search
  found_nobody : p.subsystems ≤ highest p lower → p.tasks ≤ at_ceiling → Nobody p s no_row
  found_nobody n h =
      record {
        none = refl;
        no_section = λ k l. fails _ (λ i. absurd (omega (arith, ceiling_held (section_ceiling_lem k l i))));
        no_budget = λ d l. ⊎_elim
            (λ b. absurd (omega (arith, ceiling_held (omega (arith, not_lower n d l b, level_there p d l)))))
            (λ z. omega arith)
            (row_there 0 (left_of s d).0);
      }

  -- the three cases
  pub chosen_cases : Chosen p s (chosen p s)
  chosen_cases = go (row_there (highest p lower) p.subsystems) (row_there at_ceiling p.tasks)
    where
      go : (highest p lower < p.subsystems) ⊎ (p.subsystems ≤ highest p lower) → (at_ceiling < p.tasks) ⊎ (p.tasks ≤ at_ceiling) → Chosen p s (chosen p s)
      go (inl h) w = by_level (rw (chosen_lower h) (found_lower h))
      go (inr n) (inl h) = by_holding (rw (chosen_holder n, holder_there h) (found_holder n h))
      go (inr n) (inr h) = nobody (rw (chosen_holder n, holder_none h) (found_nobody n h))

  -- a chosen row is there, unless nobody is chosen
  chosen_or : (Nobody p s (chosen p s) → ⊥) → chosen p s < p.subsystems
  chosen_or f = go chosen_cases
    where
      go : Chosen p s (chosen p s) → chosen p s < p.subsystems
      go (by_level B) = B.there
      go (by_holding H) = rw (← H.owned) (A.owner_there H.holder H.there)
      go (nobody N) = absurd (f N)

  -- a chosen row is there
  pub chosen_there : chosen p s ≢ no_row → chosen p s < p.subsystems
  chosen_there n = chosen_or (λ N. n N.none)

  -- where a global is held or some row has budget left, a subsystem is chosen

  pub held_chosen : (h : ℕ) → h < p.tasks → in_section p (task_at s h) ≡ true → chosen p s < p.subsystems
  held_chosen h l i = chosen_or (λ N. clash i (N.no_section h l))

  pub budget_chosen : (d : ℕ) → d < p.subsystems → 0 < (left_of s d).0 → chosen p s < p.subsystems
  budget_chosen d l b = chosen_or (λ N. omega (arith, N.no_budget d l))
