-- The tables of the plan read so far, where the lines read are those of a plan's text: each is copied row by row.
use Rattle.std.proofs.Common.{◌≡◌, sym, ◌∙◌, ⊎_elim, List, ℕ, zero, suc, ◌≤◌, ◌<◌, not-suc-le-zero, le_of_lt, arith, length, get_or, set, length-set, replicate, get_or-set_same, get_or-set_other, ext_get_or}
use lib.ListN.{length-replicate}
use Rattle.below.proofs.Search.{last_or_before}
use Rattle.plan.specs.Limits.{undeclared}
use Rattle.plan.specs.Plan.{place}
use Rattle.plan.proofs.Facts.{row_there}
use Rattle.reader.specs.Reading.{opened}
use Rattle.exactly.proofs.PlanShape.{zeros, place_task, place_resource, length_opened, opened_at, opened_else}

-- the first i entries of a table of m, over zeros
unfoldable pub copied : List ℕ → ℕ → ℕ → List ℕ
copied from m zero = replicate m 0
copied from m (suc i) = set (copied from m i) i (get_or from i 0)

module _ (from : List ℕ) (m : ℕ) where
  copied_long : (i : ℕ) → length (copied from m i) ≡ m
  unfolding copied
  copied_long zero = length-replicate {A = ℕ} m 0
  copied_long (suc i) = length-set (copied from m i) i (get_or from i 0) ∙ copied_long i

  copied_there : (i : ℕ) → i ≤ m → (s : ℕ) → s < i → get_or (copied from m i) s 0 ≡ get_or from s 0
  unfolding copied
  copied_there zero h s u = absurd (not-suc-le-zero u)
  copied_there (suc i) h s u = ⊎_elim here (λ v. before v (copied_there i (le_of_lt h) s v)) (last_or_before u)
    where
      here : s ≡ i → get_or (set (copied from m i) i (get_or from i 0)) s 0 ≡ get_or from s 0
      here q = rw q (get_or-set_same (copied from m i) i (get_or from i 0) 0 (omega (arith, copied_long i)))

      before : s < i → get_or (copied from m i) s 0 ≡ get_or from s 0 → get_or (set (copied from m i) i (get_or from i 0)) s 0 ≡ get_or from s 0
      before v e = get_or-set_other (copied from m i) i s (get_or from i 0) 0 (omega arith) ∙ e

  copied_past : (i s : ℕ) → i ≤ s → get_or (copied from m i) s 0 ≡ 0
  unfolding copied
  copied_past zero s h = zeros m s
  copied_past (suc i) s h = get_or-set_other (copied from m i) i s (get_or from i 0) 0 (omega arith) ∙ copied_past i s (omega arith)

  -- a table whose entries past the first n are 0 is copied whole
  pub copied_whole : (n : ℕ) → length from ≡ m → n ≤ m → ((s : ℕ) → n ≤ s → get_or from s 0 ≡ 0) → copied from m n ≡ from
  copied_whole n l h z = ext_get_or 0 (copied from m n) from (copied_long n ∙ sym l) (λ s u. same s)
    where
      same : (s : ℕ) → get_or (copied from m n) s 0 ≡ get_or from s 0
      same s = ⊎_elim (copied_there n h s) (λ v. copied_past n s v ∙ sym (z s v)) (row_there s n)

-- the lengths when i resources are opened for n tasks
unfoldable pub opened_to : ℕ → ℕ → List ℕ
opened_to n zero = replicate 512 0
opened_to n (suc i) = opened n i (opened_to n i)

pub opened_to_long : (n i : ℕ) → length (opened_to n i) ≡ 512
unfolding opened_to
opened_to_long n zero = length-replicate {A = ℕ} 512 0
opened_to_long n (suc i) = length_opened n i (opened_to n i) ∙ opened_to_long n i

-- a pair of rows that are there is undeclared
pub opened_to_there : (n i : ℕ) → n ≤ 32 → i ≤ 16 → (t r : ℕ) → t < n → r < i → get_or (opened_to n i) (place t r) 0 ≡ undeclared
unfolding opened_to
opened_to_there n zero h k t r u v = absurd (not-suc-le-zero v)
opened_to_there n (suc i) h k t r u v = ⊎_elim here (λ x. before x (opened_to_there n i h (le_of_lt k) t r u x)) (last_or_before v)
  where
    here : r ≡ i → get_or (opened n i (opened_to n i)) (place t r) 0 ≡ undeclared
    here q = rw q (opened_at n i (opened_to n i) h k (opened_to_long n i) t u)

    before : r < i → get_or (opened_to n i) (place t r) 0 ≡ undeclared → get_or (opened n i (opened_to n i)) (place t r) 0 ≡ undeclared
    before x e =
        opened_else n i (opened_to n i) (place t r) (λ j y q. omega (arith, place_resource t r j i (omega arith) (omega arith) q)) ∙ e

-- any other has 0
pub opened_to_absent : (n i : ℕ) → i ≤ 16 → (t r : ℕ) → r < 16 → (t < n → r < i → ⊥) → get_or (opened_to n i) (place t r) 0 ≡ 0
unfolding opened_to
opened_to_absent n zero k t r u a = zeros 512 (place t r)
opened_to_absent n (suc i) k t r u a =
    opened_else n i (opened_to n i) (place t r) other ∙ opened_to_absent n i (le_of_lt k) t r u (λ x y. a x (omega arith))
  where
    other : (j : ℕ) → j < n → place t r ≡ place j i → ⊥
    other j x q = a (omega (arith, place_task t r j i u k q)) (omega (arith, place_resource t r j i u k q))
