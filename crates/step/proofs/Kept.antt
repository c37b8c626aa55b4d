-- A legal state with one task replaced stays legal: its section stays as it was, is opened, or is closed.
use mathlib.Core.Path.{◌≡◌, refl, ap, ◌∙◌}
use mathlib.Core.Bool.{true, false}
use Prim.Native.Nat.{ℕ, ◌≤◌, ◌<◌}
use native.Mathlib.Nat.{le_refl}
use native.Mathlib.Omega.{arith}
use lib.ListN.{length}
use Rattle.plan.specs.declared.Plan.{Plan}
use Rattle.plan.specs.Limits.{most_subsystems, most_tasks}
use Rattle.plan.specs.Plan.{owner, length_of}
use Rattle.plan.specs.Facts.{Accepted}
use Rattle.state.specs.declared.Task.{Task}
use Rattle.state.specs.declared.State.{State}
use Rattle.state.specs.State.{most_held, task_at, left_of, refill_of, used_of, last_held, in_section}
use Rattle.state.specs.Update.{with_task, with_used}
use Rattle.state.specs.Sized.{Sized}
use Rattle.state.proofs.Update.{task_at_with_task, task_at_with_task_other, left_of_with_task, refill_of_with_task, used_of_with_task, sized_with_task, used_of_with_used, used_of_with_used_other, sized_with_used}
use Rattle.legal.specs.Facts.{Legal}
use Rattle.legal.proofs.Tasks.{section_engaged}
use Rattle.legal.proofs.Parts.{legal_tasks}
use Rattle.legal.proofs.Counts.{SameCounts, SameSection}
use Rattle.legal.proofs.Replaced.{Fits}
use Rattle.legal.proofs.Changed.{Changed, OthersOutside, engaged_others, all_outside, same_legal, inside_legal, outside_legal}

-- a legal state with lists of the right lengths
pub record Kept (p : Plan) (s : State) : Type 0 where
  pub sized : Sized s
  pub legal : Legal p s

-- counts that are read alike
same_counts : (s : State) (k : ℕ) (t : Task) (c : ℕ) → SameCounts s (with_task s k t) c
same_counts s k t c = record { left = ap (λ q. q.0) (left_of_with_task s k t c); refill = refill_of_with_task s k t c; used = used_of_with_task s k t c }

module _ (p : Plan) (s : State) (A : Accepted p) (S : Kept p s) (k : ℕ) (h : k < p.tasks) (t : Task) (size : length t.held ≡ most_held) (F : Fits p (task_at s) k t) where
  -- k is a row of the list
  there : k < most_tasks
  there = omega (arith, A.tasks_most)

  -- and so is its subsystem
  owner_most : owner p k < most_subsystems
  owner_most = omega (arith, A.owner_there k h, A.subsystems_most)

  -- t stands there afterwards
  at_k : task_at (with_task s k t) k ≡ t
  at_k = task_at_with_task s k t S.sized there size

  -- the lists keep their lengths
  resized : Sized (with_task s k t)
  resized = sized_with_task s k t S.sized

  -- nothing else changed
  task_changed : Changed s (with_task s k t) k (owner p k)
  task_changed = record { others = task_at_with_task_other s k t; elsewhere = λ d n. same_counts s k t d }

  -- t may stand there
  fits_there : Fits p (task_at s) k (task_at (with_task s k t) k)
  fits_there = rw at_k F

  -- its section stays as it was
  pub task_kept : SameSection p (task_at s k) t → Kept p (with_task s k t)
  task_kept E =
      record {
        sized = resized;
        legal = same_legal p s (with_task s k t) A S.legal k (owner p k) h refl task_changed fits_there (same_counts s k t (owner p k)) (rw at_k E);
      }

  -- a section is opened: its length is at most the budget left, and nothing is used
  pub opened_kept : OthersOutside p s k (owner p k) → in_section p (task_at s k) ≡ false → in_section p t ≡ true → length_of p k (last_held t) ≤ (left_of s (owner p k)).0
      → Kept p (with_task s k t)
  opened_kept others out i enough =
      record {
        sized = resized;
        legal =
            inside_legal p s (with_task s k t) A S.legal k (owner p k) h refl task_changed fits_there (omega (arith, same.left)) same.refill (rw at_k i)
            (omega (arith, same.used, unused))
            (rw at_k (omega (arith, same.left)));
      }
    where
      same : SameCounts s (with_task s k t) (owner p k)
      same = same_counts s k t (owner p k)

      unused : used_of s (owner p k) ≡ 0
      unused = S.legal.unused (owner p k) (A.owner_there k h) (all_outside p s k (owner p k) others out)

  -- a section is closed, and used is set to 0
  pub closed_kept : in_section p (task_at s k) ≡ true → in_section p t ≡ false → Kept p (with_used (with_task s k t) (owner p k) 0)
  unfolding with_task with_used task_at left_of refill_of
  closed_kept i out =
      record {
        sized = sized_with_used (with_task s k t) (owner p k) 0 resized;
        legal =
            outside_legal p s (with_used (with_task s k t) (owner p k) 0) A S.legal k (owner p k) h refl changed fits_there (le_refl _) refl
            (engaged_others p s (legal_tasks p s S.legal) k (owner p k) h refl (section_engaged p (task_at s k) i)) (rw at_k out)
            (used_of_with_used (with_task s k t) (owner p k) 0 resized owner_most);
      }
    where
      changed : Changed s (with_used (with_task s k t) (owner p k) 0) k (owner p k)
      changed =
          record {
            others = task_at_with_task_other s k t;
            elsewhere = λ d n. record { left = refl; refill = refl; used = used_of_with_used_other (with_task s k t) (owner p k) 0 d n ∙ used_of_with_task s k t d };
          }
