-- "State": the test of a legal state and its facts with names, each from the other.
use mathlib.Core.Path.{◌≡◌}
use mathlib.Core.Logic.{◌⊎◌, ⊎_elim}
use mathlib.Core.Bool.{Bool, true, false, not, ◌&&◌, ◌||◌}
use Prim.Native.Nat.{ℕ, ◌≤◌, ◌<◌}
use native.Mathlib.Omega.{arith}
use lib.Dec.{leb, ltb, eqb}
use borrow.Author.Tests.{leb-true, ltb-true, eqb-true, eqb-false, not-true, lt-ltb, le-leb, eq-eqb, ne_eqb}
use Rattle.below.specs.Below.{all}
use Rattle.below.proofs.Search.{all_at, all_of, any_absent, any_false}
use Rattle.below.proofs.Tests.{clash, fails, conjuncts, and_of, and_right, not_of, or_cases, or_else, or_left, or_right, or_second}
use Rattle.plan.specs.declared.Plan.{Plan}
use Rattle.plan.specs.Limits.{most_subsystems, most_tasks}
use Rattle.plan.specs.Plan.{period, budget, owner, is_global, length_of, taken_before}
use Rattle.plan.specs.Ceiling.{local_ceiling}
use Rattle.plan.specs.Facts.{Accepted}
use Rattle.state.specs.declared.State.{State}
use Rattle.state.specs.State.{task_at, left_of, refill_of, used_of, is_waiting, held_at, last_held, in_section, section_left}
use Rattle.legal.specs.Legal.{counts_legal, absent_subsystem, well_written, absent_task, held_legal, resting_legal, waiting_legal, section_legal, unused_legal, active_before, locals_legal, globals_legal, below_section, sections_legal, subsystem_legal, task_legal, legal}
use Rattle.legal.specs.Facts.{Legal}
use Rattle.legal.proofs.TaskFacts.{implies_true, implies_of, task_facts, facts_task_written, facts_all_held, facts_resting, facts_waiting, Absent, absent_facts, facts_absent}

-- no task of subsystem c holds a global
abbrev pub NoSection : Plan → State → ℕ → Type 0
NoSection p s c = (k : ℕ) → k < p.tasks → owner p k ≡ c → in_section p (task_at s k) ≡ false

module _ (p : Plan) (s : State) (c : ℕ) where
  -- budget left and ticks to refill
  counts_facts : counts_legal p s c ≡ true → ((left_of s c).0 ≤ budget p c) × (1 ≤ refill_of s c) × (refill_of s c ≤ period p c)
  unfolding counts_legal
  counts_facts e = (leb-true _ _ (search conjuncts), leb-true 1 _ (search conjuncts), leb-true _ _ (search conjuncts))

  -- used without a section
  unused_facts : unused_legal p s c ≡ true → NoSection p s c → used_of s c ≡ 0
  unfolding unused_legal
  unused_facts e n =
      eqb-true _ 0
      (or_second _ _ e (any_absent p.tasks _ (λ k h. fails _ (λ q. clash (and_right (eqb (owner p k) c) _ q) (n k h (eqb-true _ _ (search conjuncts)))))))

  -- and back
  facts_unused : (NoSection p s c → used_of s c ≡ 0) → unused_legal p s c ≡ true
  unfolding unused_legal
  facts_unused f =
      or_else _ _
      (λ e. eq-eqb _ 0
      (f (λ k h q. fails _ (λ i. clash (and_of _ _ (eq-eqb _ _ q) i) (any_false p.tasks (λ k. eqb (owner p k) c && in_section p (task_at s k)) e k h)))))

  -- the tests of a subsystem that is there
  subsystem_there : subsystem_legal p s c ≡ true → c < p.subsystems → (counts_legal p s c && unused_legal p s c) ≡ true
  unfolding subsystem_legal
  subsystem_there e h = implies_true (ltb c p.subsystems) _ (search conjuncts) (lt-ltb _ _ h)

  -- of one that is absent
  subsystem_absent : subsystem_legal p s c ≡ true → p.subsystems ≤ c → ((left_of s c).0 ≡ 0) × (refill_of s c ≡ 0) × (used_of s c ≡ 0)
  unfolding subsystem_legal absent_subsystem
  subsystem_absent e h =
      let v = implies_true (leb p.subsystems c) (absent_subsystem s c) (search conjuncts) (le-leb _ _ h) in
      (eqb-true _ 0 (search conjuncts), eqb-true _ 0 (search conjuncts), eqb-true _ 0 (search conjuncts))

  -- and back
  facts_subsystem : Legal p s → c < most_subsystems → subsystem_legal p s c ≡ true
  unfolding subsystem_legal counts_legal absent_subsystem
  facts_subsystem L l = and_of _ _ (implies_of _ _ there) (implies_of _ _ absent)
    where
      there : ltb c p.subsystems ≡ true → (counts_legal p s c && unused_legal p s c) ≡ true
      there e =
          let h = ltb-true c p.subsystems e in
          rw (le-leb _ _ (L.left_most c h), le-leb 1 _ (L.refill_ahead c h), le-leb _ _ (L.refill_most c h)) (facts_unused (L.unused c h))

      absent : leb p.subsystems c ≡ true → absent_subsystem s c ≡ true
      absent e =
          let h = leb-true p.subsystems c e in
          rw (eq-eqb _ 0 (L.no_left c l h), eq-eqb _ 0 (L.no_refill c l h), eq-eqb _ 0 (L.no_used c l h))

module _ (p : Plan) (s : State) (k : ℕ) where
  -- the tests of a task that is there, together
  unfoldable task_test : Bool
  task_test =
      well_written (task_at s k)
      && held_legal p k (task_at s k)
      && resting_legal (task_at s k)
      && waiting_legal p k (task_at s k)
      && section_legal p s k
      && locals_legal p s k
      && globals_legal p s k
      && all p.tasks (sections_legal p s k)

  -- one test of the row, where the task is there
  task_there : task_legal p s k ≡ true → k < p.tasks → task_test ≡ true
  unfolding task_legal task_test
  task_there e h = implies_true (ltb k p.tasks) _ (search conjuncts) (lt-ltb _ _ h)

  -- where it is absent
  task_absent : task_legal p s k ≡ true → p.tasks ≤ k → Absent (task_at s k)
  unfolding task_legal
  task_absent e h = absent_facts (task_at s k) (implies_true (leb p.tasks k) _ (search conjuncts) (le-leb _ _ h))

  -- used and budget left against the length
  section_facts : section_legal p s k ≡ true → in_section p (task_at s k) ≡ true
      → (used_of s (owner p k) ≤ length_of p k (last_held (task_at s k))) × ((section_left p s k).0 ≤ (left_of s (owner p k)).0)
  unfolding section_legal
  section_facts e i =
      let v = implies_true (in_section p (task_at s k)) _ e i in
      (leb-true _ _ (search conjuncts), leb-true _ _ (search conjuncts))

  -- who may be ahead of a holder of locals
  locals_facts : locals_legal p s k ≡ true → (i : ℕ) → i < (task_at s k).count → is_global p (held_at (task_at s k) i) ≡ false
      → (j : ℕ) → j < p.tasks → active_before p s k j ≡ true → taken_before p j (local_ceiling p (held_at (task_at s k) i)) ≡ true
  unfolding locals_legal
  locals_facts e i l g j h a = implies_true (active_before p s k j) _ (all_at p.tasks _ (or_second _ _ (all_at (task_at s k).count _ e i l) g) j h) a

  -- who may be ahead of one that waits or holds a global
  globals_facts : globals_legal p s k ≡ true → (is_waiting (task_at s k) || in_section p (task_at s k)) ≡ true → (j : ℕ) → j < p.tasks → active_before p s k j ≡ false
  unfolding globals_legal
  globals_facts e w j h = not-true _ (all_at p.tasks _ (implies_true (is_waiting (task_at s k) || in_section p (task_at s k)) _ e w) j h)

  -- two subsystems with globals
  sections_facts : (j : ℕ) → sections_legal p s j k ≡ true → in_section p (task_at s j) ≡ true → in_section p (task_at s k) ≡ true
      → (owner p j ≡ owner p k → ⊥) → (below_section p s j k ≡ true) ⊎ (below_section p s k j ≡ true)
  unfolding sections_legal
  sections_facts j e a b n =
      or_cases _ _
      (implies_true (in_section p (task_at s j) && in_section p (task_at s k) && not (eqb (owner p j) (owner p k))) _ e
      (rw (a, b, ne_eqb _ _ n)))

  module _ (L : Legal p s) (h : k < p.tasks) where
    facts_section : section_legal p s k ≡ true
    unfolding section_legal
    facts_section =
        implies_of (in_section p (task_at s k)) _ (λ i. and_of _ _ (le-leb _ _ (L.used_most k h i)) (le-leb _ _ (L.left_enough k h i)))

    facts_locals : locals_legal p s k ≡ true
    unfolding locals_legal
    facts_locals = all_of (task_at s k).count _ (λ i l. or_else _ _ (λ g. all_of p.tasks _ (λ j m. implies_of _ _ (L.locals k i h l g j m))))

    facts_globals : globals_legal p s k ≡ true
    unfolding globals_legal
    facts_globals = implies_of _ _ (λ w. all_of p.tasks _ (λ j m. not_of _ (L.globals k h w j m)))

    facts_sections : (j : ℕ) → j < p.tasks → sections_legal p s k j ≡ true
    unfolding sections_legal
    facts_sections j m =
        implies_of (in_section p (task_at s k) && in_section p (task_at s j) && not (eqb (owner p k) (owner p j))) _
        (λ e. ⊎_elim (or_left (below_section p s k j) _) (or_right (below_section p s k j) _)
        (L.sections k j h m (search conjuncts) (search conjuncts) (eqb-false _ _ (not-true _ (search conjuncts)))))

  -- the test of the row from the facts
  facts_task : Legal p s → k < most_tasks → task_legal p s k ≡ true
  unfolding task_legal task_test
  facts_task L l = and_of _ _ (implies_of _ _ there) (implies_of _ _ absent)
    where
      there : ltb k p.tasks ≡ true → task_test ≡ true
      there e =
          let h = ltb-true k p.tasks e in
          let T = L.task k h in
          rw (
            facts_task_written p k _ T,
            facts_all_held p k _ T,
            facts_resting p k _ T,
            facts_waiting p k _ T,
            facts_section L h,
            facts_locals L h,
            facts_globals L h,
            all_of p.tasks _ (facts_sections L h),
          )

      absent : leb p.tasks k ≡ true → absent_task (task_at s k) ≡ true
      absent e = facts_absent (task_at s k) (L.no_task k l (leb-true p.tasks k e))

-- the facts from the test; an accepted plan has no more rows than the test looks at
pub legal_facts : (p : Plan) (s : State) → Accepted p → legal p s ≡ true → Legal p s
unfolding legal task_test
legal_facts p s A e =
    record {
      left_most = λ c h. (counts_facts p s c (search (conjuncts, present c h))).0;
      refill_ahead = λ c h. (counts_facts p s c (search (conjuncts, present c h))).1;
      refill_most = λ c h. (counts_facts p s c (search (conjuncts, present c h))).2;
      unused = λ c h. unused_facts p s c (search (conjuncts, present c h));
      no_left = λ c l h. (subsystem_absent p s c (row c l) h).0;
      no_refill = λ c l h. (subsystem_absent p s c (row c l) h).1;
      no_used = λ c l h. (subsystem_absent p s c (row c l) h).2;
      no_task = λ k l h. task_absent p s k (all_at most_tasks (task_legal p s) (search conjuncts) k l) h;
      task = λ k h.
          let v = test k h in
          task_facts p k (task_at s k) (search conjuncts depth 8) (search conjuncts depth 8) (search conjuncts depth 8) (search conjuncts depth 8);
      used_most = λ k h i. (section_facts p s k (search (conjuncts, test k h) depth 8) i).0;
      left_enough = λ k h i. (section_facts p s k (search (conjuncts, test k h) depth 8) i).1;
      locals = λ k i h. locals_facts p s k (search (conjuncts, test k h) depth 8) i;
      globals = λ k h. globals_facts p s k (search (conjuncts, test k h) depth 8);
      sections = λ j k h l. sections_facts p s k j (all_at p.tasks (sections_legal p s j) (search (conjuncts, test j h) depth 8) k l);
    }
  where
    row : (c : ℕ) → c < most_subsystems → subsystem_legal p s c ≡ true
    row c l = all_at most_subsystems (subsystem_legal p s) (search conjuncts) c l

    present : (c : ℕ) → c < p.subsystems → (counts_legal p s c && unused_legal p s c) ≡ true
    present c h = subsystem_there p s c (row c (omega (arith, A.subsystems_most))) h

    test : (k : ℕ) → k < p.tasks → task_test p s k ≡ true
    test k h = task_there p s k (all_at most_tasks (task_legal p s) (search conjuncts) k (omega (arith, A.tasks_most))) h

-- the test from the facts
pub facts_legal : (p : Plan) (s : State) → Legal p s → legal p s ≡ true
unfolding legal
facts_legal p s L =
    and_of _ _ (all_of most_subsystems _ (λ c l. facts_subsystem p s c L l)) (all_of most_tasks _ (λ k l. facts_task p s k L l))
