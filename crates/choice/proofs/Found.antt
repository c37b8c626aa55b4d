-- How the loop that looks for the system ceiling starts and goes on.
use mathlib.Core.Path.{refl, sym, ◌∙◌}
use Prim.Native.Nat.{ℕ, ◌+◌, ◌≤◌, ◌<◌}
use native.Mathlib.Omega.{arith}
use Rattle.below.proofs.Least.{least_none, least_le, least_taken, least_taken_at, least_kept, least_kept_at}
use Rattle.plan.specs.Limits.{no_row}
use Rattle.choice.specs.Columns.{Found}

pub found_none : (n : ℕ) (f : ℕ → ℕ) → Found n 0 f n no_row
found_none n f = record { smallest = sym (least_none n f); of_holder = λ h. absurd (omega arith); of_none = λ e. refl }

module _ (n k : ℕ) (f : ℕ → ℕ) (m h : ℕ) (w : Found n k f m h) where
  -- a smaller ceiling at task k
  pub found_taken : f k < m → Found n (k + 1) f (f k) k
  found_taken l =
      record {
        smallest = sym (least_taken n k f (rw w.smallest at l));
        of_holder = λ u. sym (least_taken_at n k f (rw w.smallest at l));
        of_none = λ e. absurd (omega (arith, w.smallest, least_le n k f));
      }

  -- another
  pub found_kept : m ≤ f k → Found n (k + 1) f m h
  found_kept l =
      record {
        smallest = w.smallest ∙ sym (least_kept n k f (rw w.smallest at l));
        of_holder = λ u. w.of_holder u ∙ rw w.smallest (sym (least_kept_at n k f (rw w.smallest at u)));
        of_none = w.of_none;
      }
