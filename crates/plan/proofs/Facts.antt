-- The test of an accepted plan and its facts with names, each from the other: the conditions of "The plan text", and "Admission".
use Rattle.std.proofs.Common.{◌≡◌, refl, sym, ◌⊎◌, inl, inr, Bool, true, false, not, ◌||◌, ℕ, ◌≤◌, ◌<◌, le_of_eq, arith, leb, ltb, eqb, get_or, leb-true, leb-false, ltb-false, eqb-true, lt-ltb, le-ltb, le-leb, eq-eqb}
use mathlib.Core.Bool.{and-false, or-false, or-true}
use borrow.Author.Tests.{lt-leb}
use Rattle.below.specs.Below.{all}
use Rattle.below.proofs.Search.{all_at, all_of, first_before, first_absent}
use Rattle.below.proofs.Tests.{decided, conjuncts, or_else}
use Rattle.plan.specs.declared.Plan.{Plan}
use Rattle.plan.specs.Limits.{most_subsystems, most_tasks, most_resources, longest}
use Rattle.plan.specs.Plan.{period, budget, owner, is_global, length_of, declares}
use Rattle.plan.specs.Admission.{demand, admitted, first_negative}
use Rattle.plan.specs.Accepted.{counts_fit, subsystem_fits, task_fits, resource_fits, length_fits, use_fits, one_subsystem, accepted}
use Rattle.plan.specs.Facts.{Accepted}

-- a row is there or absent
pub row_there : (k n : ℕ) → (k < n) ⊎ (n ≤ k)
row_there k n = go (leb n k) refl
  where
    go : (b : Bool) → leb n k ≡ b → (k < n) ⊎ (n ≤ k)
    go true e = inr (leb-true n k e)
    go false e = inl (leb-false n k e)

-- 23 and 29
module _ (p : Plan) where
  counts_facts : counts_fit p ≡ true → (1 ≤ p.subsystems) × (p.subsystems ≤ most_subsystems) × (p.tasks ≤ most_tasks) × (p.resources ≤ most_resources)
  unfolding counts_fit
  counts_facts e =
      (leb-true _ _ (search conjuncts), leb-true _ _ (search conjuncts), leb-true _ _ (search conjuncts), leb-true _ _ (search conjuncts))

  facts_counts : Accepted p → counts_fit p ≡ true
  unfolding counts_fit
  facts_counts A = rw (le-leb 1 _ A.some_subsystem, le-leb _ _ A.subsystems_most, le-leb _ _ A.tasks_most, le-leb _ _ A.resources_most)

-- 25: a subsystem
module _ (p : Plan) (s : ℕ) where
  subsystem_there : subsystem_fits p s ≡ true → s < p.subsystems → (1 ≤ period p s) × (period p s ≤ longest) × (1 ≤ budget p s) × (budget p s ≤ period p s)
  unfolding subsystem_fits
  subsystem_there e h =
      let v = simp (lt-ltb s p.subsystems, lt-leb p.subsystems s, or-false) at e in
      (leb-true 1 _ (search conjuncts), leb-true _ longest (search conjuncts), leb-true 1 _ (search conjuncts), leb-true _ _ (search conjuncts))

  subsystem_absent : subsystem_fits p s ≡ true → p.subsystems ≤ s → (period p s ≡ 0) × (budget p s ≡ 0)
  unfolding subsystem_fits
  subsystem_absent e h =
      let v = simp (le-ltb s p.subsystems, le-leb p.subsystems s) at e in
      (eqb-true _ 0 (search conjuncts), eqb-true _ 0 (search conjuncts))

  facts_subsystem : Accepted p → s < most_subsystems → subsystem_fits p s ≡ true
  unfolding subsystem_fits
  facts_subsystem A l = go (row_there s p.subsystems)
    where
      go : (s < p.subsystems) ⊎ (p.subsystems ≤ s) → subsystem_fits p s ≡ true
      go (inl h) =
          simp (
            lt-ltb s p.subsystems,
            le-leb 1 _ (A.period_whole s h),
            le-leb _ longest (A.period_most s h),
            le-leb 1 _ (A.budget_whole s h),
            le-leb _ _ (A.budget_most s h),
          )
      go (inr h) =
          simp (le-ltb s p.subsystems, le-leb p.subsystems s, eq-eqb _ 0 (A.no_period s l h), eq-eqb _ 0 (A.no_budget s l h))

-- 24: a task
module _ (p : Plan) (t : ℕ) where
  task_there : task_fits p t ≡ true → t < p.tasks → owner p t < p.subsystems
  unfolding task_fits
  task_there e h =
      let v = simp (lt-ltb t p.tasks, lt-leb p.tasks t, or-false) at e in
      leb-true _ _ v

  task_absent : task_fits p t ≡ true → p.tasks ≤ t → owner p t ≡ 0
  unfolding task_fits
  task_absent e h = eqb-true _ 0 (simp (le-ltb t p.tasks, le-leb p.tasks t) at e)

  facts_task : Accepted p → t < most_tasks → task_fits p t ≡ true
  unfolding task_fits
  facts_task A l = go (row_there t p.tasks)
    where
      go : (t < p.tasks) ⊎ (p.tasks ≤ t) → task_fits p t ≡ true
      go (inl h) = simp (lt-ltb t p.tasks, lt-ltb _ _ (A.owner_there t h))
      go (inr h) = simp (le-ltb t p.tasks, le-leb p.tasks t, eq-eqb _ 0 (A.no_owner t l h))

-- L or G
module _ (p : Plan) (r : ℕ) where
  resource_there : resource_fits p r ≡ true → r < p.resources → get_or p.kinds r 0 ≤ 1
  unfolding resource_fits
  resource_there e h = leb-true _ 1 (simp (lt-ltb r p.resources, lt-leb p.resources r, or-false) at e)

  resource_absent : resource_fits p r ≡ true → p.resources ≤ r → get_or p.kinds r 0 ≡ 0
  unfolding resource_fits
  resource_absent e h = eqb-true _ 0 (simp (le-ltb r p.resources, le-leb p.resources r) at e)

  facts_resource : Accepted p → r < most_resources → resource_fits p r ≡ true
  unfolding resource_fits
  facts_resource A l = go (row_there r p.resources)
    where
      go : (r < p.resources) ⊎ (p.resources ≤ r) → resource_fits p r ≡ true
      go (inl h) = simp (lt-ltb r p.resources, le-leb _ 1 (A.kind_known r h))
      go (inr h) = simp (le-ltb r p.resources, le-leb p.resources r, eq-eqb _ 0 (A.no_kind r l h))

-- 25 and 28: a declared length
module _ (p : Plan) (t r : ℕ) where
  length_global : length_fits p t r ≡ true → is_global p r ≡ true → (1 ≤ length_of p t r) × (length_of p t r ≤ longest) × (length_of p t r ≤ budget p (owner p t))
  unfolding length_fits
  length_global e g =
      let v = simp (g, or-false) at e in
      (leb-true 1 _ (search conjuncts), leb-true _ longest (search conjuncts), leb-true _ _ (search conjuncts))

  length_local : length_fits p t r ≡ true → is_global p r ≡ false → length_of p t r ≡ 0
  unfolding length_fits
  length_local e g = eqb-true _ 0 (simp g at e)

  use_there : use_fits p t r ≡ true → t < p.tasks → r < p.resources → declares p t r ≡ true → length_fits p t r ≡ true
  unfolding use_fits
  use_there e h l d =
      simp (lt-ltb t p.tasks, lt-leb p.tasks t, lt-ltb r p.resources, lt-leb p.resources r, or-false, d) at e

  use_no_task : use_fits p t r ≡ true → p.tasks ≤ t → length_of p t r ≡ 0
  unfolding use_fits
  use_no_task e h = eqb-true _ 0 (simp (le-ltb t p.tasks, le-leb p.tasks t) at e)

  use_no_resource : use_fits p t r ≡ true → p.resources ≤ r → length_of p t r ≡ 0
  unfolding use_fits
  use_no_resource e h = eqb-true _ 0 (simp (le-ltb r p.resources, le-leb p.resources r, and-false, or-true) at e)

  facts_length : Accepted p → t < p.tasks → r < p.resources → declares p t r ≡ true → length_fits p t r ≡ true
  unfolding length_fits
  facts_length A h l d = go (decided (is_global p r))
    where
      go : (is_global p r ≡ true) ⊎ (is_global p r ≡ false) → length_fits p t r ≡ true
      go (inl g) =
          simp (
            g,
            le-leb 1 _ (A.global_length t r h l d g),
            le-leb _ longest (A.global_longest t r h l d g),
            le-leb _ _ (A.within_budget t r h l d g),
          )
      go (inr g) = simp (g, eq-eqb _ 0 (A.local_length t r h l d g))

  facts_use : Accepted p → t < most_tasks → r < most_resources → use_fits p t r ≡ true
  unfolding use_fits
  facts_use A a b = go (row_there t p.tasks) (row_there r p.resources) (decided (declares p t r))
    where
      go : (t < p.tasks) ⊎ (p.tasks ≤ t) → (r < p.resources) ⊎ (p.resources ≤ r) → (declares p t r ≡ true) ⊎ (declares p t r ≡ false) → use_fits p t r ≡ true
      go (inl h) (inl l) (inl d) = simp (lt-ltb t p.tasks, lt-ltb r p.resources, d, facts_length A h l d)
      go (inl h) (inl l) (inr d) = simp (lt-ltb t p.tasks, lt-ltb r p.resources, d)
      go (inl h) (inr l) d = simp (le-ltb r p.resources, le-leb p.resources r, and-false, or-true, eq-eqb _ 0 (A.no_length_resource t r a b l))
      go (inr h) l d = simp (le-ltb t p.tasks, le-leb p.tasks t, eq-eqb _ 0 (A.no_length_task t r a b h))

-- 27: a local resource
module _ (p : Plan) (r : ℕ) where
  local_one : one_subsystem p r ≡ true → is_global p r ≡ false → (j k : ℕ) → j < p.tasks → k < p.tasks → declares p j r ≡ true → declares p k r ≡ true → owner p j ≡ owner p k
  unfolding one_subsystem
  local_one e g j k a b d c =
      let v = all_at p.tasks _ (all_at p.tasks _ (simp g at e) j a) k b in
      eqb-true _ _ (simp (d, c) at v)

  facts_one : Accepted p → r < p.resources → one_subsystem p r ≡ true
  unfolding one_subsystem
  facts_one A l = or_else _ _ (λ g. all_of p.tasks _ (λ j a. all_of p.tasks _ (λ k b. both g j k a b)))
    where
      both : is_global p r ≡ false → (j k : ℕ) → j < p.tasks → k < p.tasks → (not (declares p j r) || not (declares p k r) || eqb (owner p j) (owner p k)) ≡ true
      both g j k a b = go (decided (declares p j r)) (decided (declares p k r))
        where
          go : (declares p j r ≡ true) ⊎ (declares p j r ≡ false) → (declares p k r ≡ true) ⊎ (declares p k r ≡ false)
              → (not (declares p j r) || not (declares p k r) || eqb (owner p j) (owner p k)) ≡ true
          go (inl d) (inl c) = simp (d, c, eq-eqb _ _ (A.one_subsystem r j k l a b g d c))
          go (inl d) (inr c) = simp (d, c)
          go (inr d) c = simp d

-- 30
module _ (p : Plan) where
  admitted_fits : admitted p ≡ true → (s : ℕ) → s < p.subsystems → demand p s ≤ period p s
  unfolding admitted first_negative
  admitted_fits e s h =
      ltb-false (period p s) (demand p s) (first_before p.subsystems (λ s. ltb (period p s) (demand p s)) s (omega (arith, leb-true p.subsystems (first_negative p) e)))

  pub fits_admitted : Accepted p → admitted p ≡ true
  unfolding admitted first_negative
  fits_admitted A =
      le-leb p.subsystems _ (le_of_eq (sym (first_absent p.subsystems _ (λ s h. le-ltb (period p s) (demand p s) (A.fits s h)))))

-- the facts from the test
pub accepted_facts : (p : Plan) → accepted p ≡ true → Accepted p
unfolding accepted
accepted_facts p e =
    record {
      some_subsystem = c.0;
      subsystems_most = c.1;
      tasks_most = c.2;
      resources_most = c.3;
      period_whole = λ s h. (subsystem s h).0;
      period_most = λ s h. (subsystem s h).1;
      budget_whole = λ s h. (subsystem s h).2;
      budget_most = λ s h. (subsystem s h).3;
      owner_there = λ t h. task_there p t (all_at most_tasks _ tasks t (omega (arith, c))) h;
      kind_known = λ r h. resource_there p r (all_at most_resources _ resources r (omega (arith, c))) h;
      global_length = λ t r h l d g. (length_global p t r (lengths t r h l d) g).0;
      global_longest = λ t r h l d g. (length_global p t r (lengths t r h l d) g).1;
      within_budget = λ t r h l d g. (length_global p t r (lengths t r h l d) g).2;
      local_length = λ t r h l d g. length_local p t r (lengths t r h l d) g;
      one_subsystem = λ r j k l a b g. local_one p r (all_at p.resources (one_subsystem p) (search conjuncts) r l) g j k a b;
      no_period = λ s l h. (subsystem_absent p s (all_at most_subsystems _ subsystems s l) h).0;
      no_budget = λ s l h. (subsystem_absent p s (all_at most_subsystems _ subsystems s l) h).1;
      no_owner = λ t l h. task_absent p t (all_at most_tasks _ tasks t l) h;
      no_kind = λ r l h. resource_absent p r (all_at most_resources _ resources r l) h;
      no_length_task = λ t r a b h. use_no_task p t r (uses t r a b) h;
      no_length_resource = λ t r a b h. use_no_resource p t r (uses t r a b) h;
      fits = admitted_fits p (search conjuncts);
    }
  where
    c : (1 ≤ p.subsystems) × (p.subsystems ≤ most_subsystems) × (p.tasks ≤ most_tasks) × (p.resources ≤ most_resources)
    c = counts_facts p (search conjuncts)

    subsystems : all most_subsystems (subsystem_fits p) ≡ true
    subsystems = search conjuncts

    tasks : all most_tasks (task_fits p) ≡ true
    tasks = search conjuncts

    resources : all most_resources (resource_fits p) ≡ true
    resources = search conjuncts

    uses : (t r : ℕ) → t < most_tasks → r < most_resources → use_fits p t r ≡ true
    uses t r a b = all_at most_resources _ (all_at most_tasks (λ t. all most_resources (use_fits p t)) (search conjuncts) t a) r b

    subsystem : (s : ℕ) → s < p.subsystems → (1 ≤ period p s) × (period p s ≤ longest) × (1 ≤ budget p s) × (budget p s ≤ period p s)
    subsystem s h = subsystem_there p s (all_at most_subsystems _ subsystems s (omega (arith, c))) h

    lengths : (t r : ℕ) → t < p.tasks → r < p.resources → declares p t r ≡ true → length_fits p t r ≡ true
    lengths t r h l d = use_there p t r (uses t r (omega (arith, c)) (omega (arith, c))) h l d

-- the test from the facts
pub facts_accepted : (p : Plan) → Accepted p → accepted p ≡ true
unfolding accepted
facts_accepted p A =
    rw (
      facts_counts p A,
      all_of most_subsystems _ (λ s l. facts_subsystem p s A l),
      all_of most_tasks _ (λ t l. facts_task p t A l),
      all_of most_resources _ (λ r l. facts_resource p r A l),
      all_of most_tasks _ (λ t a. all_of most_resources _ (λ r b. facts_use p t r A a b)),
      all_of p.resources _ (λ r l. facts_one p r A l),
      fits_admitted p A,
    )
