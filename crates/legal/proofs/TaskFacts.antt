-- "State": the tests of one task by itself and its facts with names, each from the other.
use mathlib.Core.Path.{◌≡◌, refl, sym}
use mathlib.Core.Bool.{Bool, true, false, not, ◌&&◌, ◌||◌, true≢false}
use Prim.Native.Nat.{ℕ, ◌+◌, ◌≤◌, ◌<◌}
use native.Mathlib.Omega.{arith}
use lib.Dec.{leb, ltb, eqb}
use borrow.Author.Tests.{leb-true, ltb-true, eqb-true, eqb-false, not-true, lt-ltb, le-leb, eq-eqb, ne_eqb}
use Rattle.below.specs.Below.{all}
use Rattle.below.proofs.Search.{all_at, all_of}
use Rattle.below.proofs.Tests.{conjuncts, not_of}
use Rattle.plan.specs.declared.Plan.{Plan}
use Rattle.plan.specs.Limits.{no_row}
use Rattle.plan.specs.Plan.{is_global, declares}
use Rattle.state.specs.declared.Task.{Task}
use Rattle.state.specs.State.{most_held, is_idle, is_ready, is_waiting, held_at, in_section}
use Rattle.legal.specs.Legal.{implies, well_written, absent_task, held_legal, resting_legal, waiting_legal}
use Rattle.legal.specs.Facts.{HeldLegal, WaitLegal, TaskLegal}

-- what follows, from the test and back

pub implies_true : (a b : Bool) → implies a b ≡ true → a ≡ true → b ≡ true
unfolding implies
implies_true true b e h = e
implies_true false b e h = absurd (true≢false (sym h))

pub implies_of : (a b : Bool) → (a ≡ true → b ≡ true) → implies a b ≡ true
unfolding implies
implies_of true b f = f refl
implies_of false b f = refl

-- places that hold nothing say so, and so does a task that does not wait
abbrev Written : Task → Type 0
Written t =
    (t.condition ≤ 3)
    × (t.count ≤ most_held)
    × ((i : ℕ) → i < most_held → t.count ≤ i → held_at t i ≡ no_row)
    × (is_waiting t ≡ false → t.waits ≡ no_row)

module _ (t : Task) where
  -- the facts from the test
  written_facts : well_written t ≡ true → Written t
  unfolding well_written
  written_facts e = (
    leb-true _ 3 (search conjuncts),
    leb-true _ most_held (search conjuncts),
    λ i l m.
        eqb-true (held_at t i) no_row
        (implies_true (leb t.count i) _ (all_at most_held (λ i. implies (leb t.count i) (eqb (held_at t i) no_row)) (search conjuncts) i l) (le-leb _ _ m)),
    λ w. eqb-true t.waits no_row (implies_true (not (is_waiting t)) _ (search conjuncts) (not_of _ w)),
  )

  -- and back
  facts_written : Written t → well_written t ≡ true
  unfolding well_written
  facts_written W =
      rw (
        le-leb _ 3 W.0,
        le-leb _ most_held W.1,
        all_of most_held _ (λ i l. implies_of _ _ (λ m. eq-eqb _ _ (W.2 i l (leb-true _ _ m)))),
      )
      (implies_of _ _ (λ e. eq-eqb _ _ (W.3 (not-true _ e))))

-- the i-th held resource, as held_legal tests it
unfoldable held_test : Plan → ℕ → Task → ℕ → Bool
held_test p k t i =
    ltb (held_at t i) p.resources
    && declares p k (held_at t i)
    && all i (λ j. not (eqb (held_at t j) (held_at t i)))
    && implies (is_global p (held_at t i)) (eqb (i + 1) t.count)

module _ (p : Plan) (k : ℕ) (t : Task) where
  -- one held resource
  held_facts : (i : ℕ) → held_test p k t i ≡ true → HeldLegal p k t i
  unfolding held_test
  held_facts i e =
      record {
        there = ltb-true _ _ (search conjuncts);
        declared = search conjuncts;
        distinct = λ j h q. eqb-false (held_at t j) (held_at t i) (not-true _ (all_at i (λ j. not (eqb (held_at t j) (held_at t i))) (search conjuncts) j h)) q;
        global_last = λ g. eqb-true (i + 1) t.count (implies_true (is_global p (held_at t i)) _ (search conjuncts) g);
      }

  -- and back
  facts_held : (i : ℕ) → HeldLegal p k t i → held_test p k t i ≡ true
  unfolding held_test
  facts_held i H =
      rw
      (lt-ltb _ _ H.there, H.declared, all_of i _ (λ j h. not_of _ (ne_eqb _ _ (H.distinct j h))))
      (implies_of _ _ (λ g. eq-eqb _ _ (H.global_last g)))

  -- a waiting task
  wait_facts : waiting_legal p k t ≡ true → is_waiting t ≡ true → WaitLegal p k t
  unfolding waiting_legal
  wait_facts e w =
      let v = implies_true (is_waiting t) _ e w in
      record {
        there = ltb-true _ _ (search conjuncts);
        global = search conjuncts;
        declared = search conjuncts;
        outside = not-true _ (search conjuncts);
        room = leb-true _ 3 (search conjuncts);
      }

  -- and back
  facts_wait : (is_waiting t ≡ true → WaitLegal p k t) → waiting_legal p k t ≡ true
  unfolding waiting_legal
  facts_wait W = implies_of (is_waiting t) _ go
    where
      go : is_waiting t ≡ true → (ltb t.waits p.resources && is_global p t.waits && declares p k t.waits && not (in_section p t) && leb t.count 3) ≡ true
      go w = rw (lt-ltb _ _ (W w).there, (W w).global, (W w).declared, (W w).outside, le-leb _ 3 (W w).room)

  -- all the tests of a task that is there
  pub task_facts : well_written t ≡ true → held_legal p k t ≡ true → resting_legal t ≡ true → waiting_legal p k t ≡ true → TaskLegal p k t
  unfolding held_legal held_test resting_legal
  task_facts w h r a =
      record {
        condition = (written_facts t w).0;
        count = (written_facts t w).1;
        unheld = (written_facts t w).2;
        unawaited = (written_facts t w).3;
        held = λ i l. held_facts i (all_at t.count _ h i l);
        resting = λ e. eqb-true t.count 0 (implies_true (is_idle t || is_ready t) _ r e);
        waiting = wait_facts a;
      }

  module _ (T : TaskLegal p k t) where
    pub facts_task_written : well_written t ≡ true
    facts_task_written = facts_written t (T.condition, T.count, T.unheld, T.unawaited)

    pub facts_all_held : held_legal p k t ≡ true
    unfolding held_legal held_test
    facts_all_held = all_of t.count _ (λ i l. facts_held i (T.held i l))

    pub facts_resting : resting_legal t ≡ true
    unfolding resting_legal
    facts_resting = implies_of (is_idle t || is_ready t) _ (λ e. eq-eqb _ 0 (T.resting e))

    pub facts_waiting : waiting_legal p k t ≡ true
    facts_waiting = facts_wait T.waiting

-- how an absent task looks
abbrev pub Absent : Task → Type 0
Absent t = (t.condition ≡ 0) × (t.waits ≡ no_row) × (t.count ≡ 0) × ((i : ℕ) → i < most_held → held_at t i ≡ no_row)

-- condition 0 is not waiting
idle_waits : (t : Task) → t.condition ≡ 0 → is_waiting t ≡ false
unfolding is_waiting
idle_waits t c = rw c

-- an absent task
pub absent_facts : (t : Task) → absent_task t ≡ true → Absent t
unfolding absent_task is_idle
absent_facts t e =
    let c : t.condition ≡ 0 = eqb-true _ 0 (search conjuncts) in
    let n : t.count ≡ 0 = eqb-true _ 0 (search conjuncts) in
    let w = written_facts t (search conjuncts) in
    (c, w.3 (idle_waits t c), n, λ i l. w.2 i l (omega arith))

-- and back
pub facts_absent : (t : Task) → Absent t → absent_task t ≡ true
unfolding absent_task is_idle
facts_absent t A =
    rw
    (facts_written t (omega (arith, A.0), omega (arith, A.2), (λ i l m. A.3 i l), λ w. A.1), eq-eqb _ 0 A.0, eq-eqb _ 0 A.2)
