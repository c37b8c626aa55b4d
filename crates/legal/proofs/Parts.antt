-- "State": a legal state in two parts, its tasks and the counts of each subsystem. An event changes one task and the counts of one subsystem.
use mathlib.Core.Path.{◌≡◌, refl}
use mathlib.Core.Logic.{◌⊎◌, inl, inr, ⊎_elim}
use mathlib.Core.Bool.{true, false, ◌||◌}
use Prim.Native.Nat.{ℕ, ◌+◌, ◌≤◌, ◌<◌}
use native.Mathlib.Omega.{arith}
use borrow.Author.Tests.{ltb-true, lt-ltb, eqb-true, eq-eqb}
use Rattle.below.proofs.Tests.{clash, fails, conjuncts}
use Rattle.plan.specs.declared.Plan.{Plan}
use Rattle.plan.specs.Limits.{most_subsystems, most_tasks}
use Rattle.plan.specs.Plan.{period, budget, owner, is_global, length_of, level, taken_before}
use Rattle.plan.specs.Ceiling.{local_ceiling, global_ceiling}
use Rattle.plan.specs.Facts.{Accepted}
use Rattle.state.specs.declared.Task.{Task}
use Rattle.state.specs.declared.State.{State}
use Rattle.state.specs.State.{task_at, left_of, refill_of, used_of, is_waiting, is_active, held_at, last_held, in_section, section_left}
use Rattle.legal.specs.Legal.{active_before, below_section}
use Rattle.legal.specs.Facts.{TaskLegal, Legal}
use Rattle.legal.proofs.TaskFacts.{Absent}
use Rattle.legal.proofs.Facts.{NoSection}

-- a task waits or holds a global
abbrev pub Engaged : Plan → Task → Type 0
Engaged p t = (is_waiting t || in_section p t) ≡ true

-- j is a started or waiting task of k's subsystem that is taken before k
pub record Ahead (p : Plan) (at : ℕ → Task) (j k : ℕ) : Type 0 where
  pub owned : owner p j ≡ owner p k
  pub before : taken_before p j k ≡ true
  pub active : is_active (at j) ≡ true

-- the level of j's subsystem is below the ceiling of the global that t holds
abbrev pub Under : Plan → ℕ → Task → Type 0
Under p j t = level p (owner p j) < global_ceiling p (last_held t)

-- what a legal state says of its tasks
pub record Tasks (p : Plan) (at : ℕ → Task) : Type 0 where
  pub absent : (k : ℕ) → k < most_tasks → p.tasks ≤ k → Absent (at k)
  pub task : (k : ℕ) → k < p.tasks → TaskLegal p k (at k)
  pub locals : (k i : ℕ) → k < p.tasks → i < (at k).count → is_global p (held_at (at k) i) ≡ false
      → (j : ℕ) → j < p.tasks → Ahead p at j k → taken_before p j (local_ceiling p (held_at (at k) i)) ≡ true
  pub globals : (k : ℕ) → k < p.tasks → Engaged p (at k) → (j : ℕ) → j < p.tasks → Ahead p at j k → ⊥
  pub sections : (j k : ℕ) → j < p.tasks → k < p.tasks → in_section p (at j) ≡ true → in_section p (at k) ≡ true
      → (owner p j ≡ owner p k → ⊥) → Under p j (at k) ⊎ Under p k (at j)

-- what it says of the counts of subsystem c
pub record CountsAt (p : Plan) (s : State) (c : ℕ) : Type 0 where
  pub left_most : (left_of s c).0 ≤ budget p c
  pub refill_ahead : 1 ≤ refill_of s c
  pub refill_most : refill_of s c ≤ period p c
  pub unused : NoSection p s c → used_of s c ≡ 0
  pub used_most : (k : ℕ) → k < p.tasks → owner p k ≡ c → in_section p (task_at s k) ≡ true → used_of s c ≤ length_of p k (last_held (task_at s k))
  pub left_enough : (k : ℕ) → k < p.tasks → owner p k ≡ c → in_section p (task_at s k) ≡ true → length_of p k (last_held (task_at s k)) ≤ (left_of s c).0 + used_of s c

-- an absent subsystem has none
abbrev pub NoCounts : State → ℕ → Type 0
NoCounts s c = ((left_of s c).0 ≡ 0) × (refill_of s c ≡ 0) × (used_of s c ≡ 0)

module _ (p : Plan) (s : State) where
  -- the test of one that is ahead
  ahead_test : (j k : ℕ) → Ahead p (task_at s) j k → active_before p s k j ≡ true
  unfolding active_before
  ahead_test j k a = rw (eq-eqb _ _ a.owned, a.before) a.active

  -- and what it says
  test_ahead : (j k : ℕ) → active_before p s k j ≡ true → Ahead p (task_at s) j k
  unfolding active_before
  test_ahead j k e = record { owned = eqb-true _ _ (search conjuncts); before = search conjuncts; active = search conjuncts }

  -- the test of a level below a ceiling
  under_test : (j k : ℕ) → Under p j (task_at s k) → below_section p s j k ≡ true
  unfolding below_section
  under_test j k u = lt-ltb _ _ u

  -- and what it says
  test_under : (j k : ℕ) → below_section p s j k ≡ true → Under p j (task_at s k)
  unfolding below_section
  test_under j k e = ltb-true _ _ e

  -- a legal state taken apart

  pub legal_tasks : Legal p s → Tasks p (task_at s)
  legal_tasks L =
      record {
        absent = L.no_task;
        task = L.task;
        locals = λ k i h l g j m a. L.locals k i h l g j m (ahead_test j k a);
        globals = λ k h e j m a. clash (ahead_test j k a) (L.globals k h e j m);
        sections = λ j k h l a b n. ⊎_elim (λ u. inl (test_under j k u)) (λ u. inr (test_under k j u)) (L.sections j k h l a b n);
      }

  pub legal_counts : Legal p s → (c : ℕ) → c < p.subsystems → CountsAt p s c
  unfolding section_left
  legal_counts L c h =
      record {
        left_most = L.left_most c h;
        refill_ahead = L.refill_ahead c h;
        refill_most = L.refill_most c h;
        unused = L.unused c h;
        used_most = λ k l o i. rw o at (L.used_most k l i);
        left_enough = λ k l o i. rw o at (enough k l i);
      }
    where
      enough : (k : ℕ) → k < p.tasks → in_section p (task_at s k) ≡ true → length_of p k (last_held (task_at s k)) ≤ (left_of s (owner p k)).0 + used_of s (owner p k)
      enough k l i = omega (arith, L.left_enough k l i)

  pub legal_absent : Legal p s → (c : ℕ) → c < most_subsystems → p.subsystems ≤ c → NoCounts s c
  legal_absent L c l h = (L.no_left c l h, L.no_refill c l h, L.no_used c l h)

  -- and put together

  pub legal_of : Accepted p → Tasks p (task_at s) → ((c : ℕ) → c < p.subsystems → CountsAt p s c)
      → ((c : ℕ) → c < most_subsystems → p.subsystems ≤ c → NoCounts s c) → Legal p s
  unfolding section_left
  legal_of A T C N =
      record {
        left_most = λ c h. (C c h).left_most;
        refill_ahead = λ c h. (C c h).refill_ahead;
        refill_most = λ c h. (C c h).refill_most;
        unused = λ c h. (C c h).unused;
        no_left = λ c l h. (N c l h).0;
        no_refill = λ c l h. (N c l h).1;
        no_used = λ c l h. (N c l h).2;
        no_task = T.absent;
        task = T.task;
        used_most = λ k h i. (C (owner p k) (A.owner_there k h)).used_most k h refl i;
        left_enough = λ k h i. omega (arith, (C (owner p k) (A.owner_there k h)).left_enough k h refl i);
        locals = λ k i h l g j m a. T.locals k i h l g j m (test_ahead j k a);
        globals = λ k h e j m. fails _ (λ a. T.globals k h e j m (test_ahead j k a));
        sections = λ j k h l a b n. ⊎_elim (λ u. inl (under_test j k u)) (λ u. inr (under_test k j u)) (T.sections j k h l a b n);
      }
