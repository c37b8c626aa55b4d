-- "State": how the counts of a subsystem stay legal or become so again: nothing about its section changed, it has no section, or it has this one.
use mathlib.Core.Path.{◌≡◌, sym, ap, ◌∙◌}
use mathlib.Core.Bool.{true}
use Prim.Native.Nat.{ℕ, ◌+◌, ◌≤◌, ◌<◌}
use native.Mathlib.Omega.{arith}
use Rattle.below.proofs.Tests.{clash}
use Rattle.plan.specs.declared.Plan.{Plan}
use Rattle.plan.specs.Plan.{period, budget, owner, length_of}
use Rattle.state.specs.declared.Task.{Task}
use Rattle.state.specs.declared.State.{State}
use Rattle.state.specs.State.{task_at, left_of, refill_of, used_of, last_held, in_section}
use Rattle.legal.proofs.Facts.{NoSection}
use Rattle.legal.proofs.Parts.{Tasks, CountsAt}
use Rattle.legal.proofs.Tasks.{section_engaged, engaged_one}

-- a task is inside a section before and after, with the same last resource, or neither time
pub record SameSection (p : Plan) (t u : Task) : Type 0 where
  pub inside : in_section p u ≡ in_section p t
  pub last : in_section p t ≡ true → last_held u ≡ last_held t

-- as for a task that is the same
pub same_section : (p : Plan) (t u : Task) → u ≡ t → SameSection p t u
same_section p t u e = record { inside = ap (in_section p) e; last = λ i. ap last_held e }

-- the counts of subsystem c are what they were
pub record SameCounts (s u : State) (c : ℕ) : Type 0 where
  pub left : (left_of u c).0 ≡ (left_of s c).0
  pub refill : refill_of u c ≡ refill_of s c
  pub used : used_of u c ≡ used_of s c

-- nothing of c changed that its counts are held to
pub counts_kept : (p : Plan) (s u : State) (c : ℕ) → SameCounts s u c → ((k : ℕ) → k < p.tasks → owner p k ≡ c → SameSection p (task_at s k) (task_at u k))
    → CountsAt p s c → CountsAt p u c
counts_kept p s u c S same C =
    record {
      left_most = omega (arith, C.left_most, S.left);
      refill_ahead = omega (arith, C.refill_ahead, S.refill);
      refill_most = omega (arith, C.refill_most, S.refill);
      unused = λ n. S.used ∙ C.unused (λ k h o. sym (same k h o).inside ∙ n k h o);
      used_most = λ k h o i.
          let v = before k h o i in
          rw ((same k h o).last v, S.used) (C.used_most k h o v);
      left_enough = λ k h o i.
          let v = before k h o i in
          rw ((same k h o).last v, S.used, S.left) (C.left_enough k h o v);
    }
  where
    before : (k : ℕ) → k < p.tasks → owner p k ≡ c → in_section p (task_at u k) ≡ true → in_section p (task_at s k) ≡ true
    before k h o i = sym (same k h o).inside ∙ i

module _ (p : Plan) (s : State) (c : ℕ) (left : (left_of s c).0 ≤ budget p c) (ahead : 1 ≤ refill_of s c) (most : refill_of s c ≤ period p c) where
  -- c has no section, and nothing is used
  pub counts_out : NoSection p s c → used_of s c ≡ 0 → CountsAt p s c
  counts_out n z =
      record {
        left_most = left;
        refill_ahead = ahead;
        refill_most = most;
        unused = λ m. z;
        used_most = λ k h o i. absurd (clash i (n k h o));
        left_enough = λ k h o i. absurd (clash i (n k h o));
      }

  -- c has the section of task k
  pub counts_in : Tasks p (task_at s) → (k : ℕ) → k < p.tasks → owner p k ≡ c → in_section p (task_at s k) ≡ true
      → used_of s c ≤ length_of p k (last_held (task_at s k)) → length_of p k (last_held (task_at s k)) ≤ (left_of s c).0 + used_of s c → CountsAt p s c
  counts_in T k h o i used enough =
      record {
        left_most = left;
        refill_ahead = ahead;
        refill_most = most;
        unused = λ n. absurd (clash i (n k h o));
        used_most = λ j l q v. rw (only j l q v) used;
        left_enough = λ j l q v. rw (only j l q v) enough;
      }
    where
      only : (j : ℕ) → j < p.tasks → owner p j ≡ c → in_section p (task_at s j) ≡ true → j ≡ k
      only j l q v = engaged_one p (task_at s) T j k l h (section_engaged p (task_at s j) v) (section_engaged p (task_at s k) i) (q ∙ sym o)
