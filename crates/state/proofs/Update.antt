-- A state with one thing changed: what is read afterwards, and that the lists keep their lengths.
use mathlib.Core.Path.{◌≡◌, refl, sym, ◌∙◌}
use mathlib.Core.Logic.{◌≢◌, ◌⊎◌, inl, inr}
use mathlib.Core.List.{List}
use Prim.Native.Nat.{ℕ, zero, suc, ◌+◌, ◌*◌, ◌≤◌, ◌<◌}
use native.Mathlib.Nat.{not-suc-le-zero, lt-suc_self, le_step}
use native.Mathlib.Omega.{arith}
use lib.ListN.{length, get_or, replicate, length-set, get_or-replicate, get_or-eq_default}
use lib.Seq.{get_or-set_same, get_or-set_other}
use Rattle.below.proofs.Search.{last_or_before}
use Rattle.below.proofs.Listed.{length_listed, listed_agree, listed_get_or}
use Rattle.plan.specs.Limits.{most_subsystems, most_tasks, no_row}
use Rattle.state.specs.declared.BudgetLeft.{BudgetLeft}
use Rattle.state.specs.declared.Task.{Task}
use Rattle.state.specs.declared.State.{State}
use Rattle.state.specs.State.{most_held, held_place, held_at, idle_task, task_at, left_of, refill_of, used_of}
use Rattle.state.specs.Update.{with_held, with_task, with_left, with_used}
use Rattle.state.specs.Sized.{Sized}

-- a task read out of a state has its four places
pub held_sized : (s : State) (k : ℕ) → length (task_at s k).held ≡ most_held
unfolding task_at
held_sized s k = length_listed most_held _

-- two tasks are the same where they say the same
pub same_task : (t u : Task) → t.condition ≡ u.condition → t.waits ≡ u.waits → t.count ≡ u.count → t.held ≡ u.held → t ≡ u
same_task t u a b c d = λ i. record { condition = a i; waits = b i; count = c i; held = d i }

-- a row past the last reads as an idle task
pub task_at_past : (s : State) (k : ℕ) → Sized s → most_tasks ≤ k → task_at s k ≡ idle_task
unfolding task_at idle_task held_place
task_at_past s k z h =
    same_task _ _
    (get_or-eq_default s.conditions 0 (rw z.conditions h))
    (get_or-eq_default s.waits no_row (rw z.waits h))
    (get_or-eq_default s.counts 0 (rw z.counts h))
    (listed_agree most_held _ (λ i. get_or (replicate most_held no_row) i no_row)
    (λ i l. get_or-eq_default s.held no_row (rw z.held (omega arith)) ∙ sym (get_or-replicate most_held i no_row no_row l))
    ∙ listed_get_or no_row (replicate most_held no_row) most_held refl)

-- the places of other tasks keep what they hold, and those of the task get what it holds

with_held_other : (held : List ℕ) (k : ℕ) (t : Task) (n : ℕ) (at : ℕ) → ((i : ℕ) → i < n → at ≡ held_place k i → ⊥)
    → get_or (with_held held k t n) at no_row ≡ get_or held at no_row
unfolding with_held
with_held_other held k t zero at f = refl
with_held_other held k t (suc n) at f =
    get_or-set_other (with_held held k t n) (held_place k n) at (held_at t n) no_row (f n (lt-suc_self n))
    ∙ with_held_other held k t n at (λ i l. f i (le_step l))

length_with_held : (held : List ℕ) (k : ℕ) (t : Task) (n : ℕ) → length (with_held held k t n) ≡ length held
unfolding with_held
length_with_held held k t zero = refl
length_with_held held k t (suc n) = length-set (with_held held k t n) (held_place k n) (held_at t n) ∙ length_with_held held k t n

with_held_same : (held : List ℕ) (k : ℕ) (t : Task) (n i : ℕ) → i < n → held_place k n ≤ length held
    → get_or (with_held held k t n) (held_place k i) no_row ≡ held_at t i
unfolding with_held held_place
with_held_same held k t zero i l fits = absurd (not-suc-le-zero l)
with_held_same held k t (suc n) i l fits = go (last_or_before l) (λ v. with_held_same held k t n i v (omega arith))
  where
    go : (i ≡ n) ⊎ (i < n) → (i < n → get_or (with_held held k t n) (held_place k i) no_row ≡ held_at t i)
        → get_or (with_held held k t (suc n)) (held_place k i) no_row ≡ held_at t i
    go (inl q) before =
        rw q
        (get_or-set_same (with_held held k t n) (held_place k n) (held_at t n) no_row
        (rw (length_with_held held k t n) (omega arith)))
    go (inr v) before =
        get_or-set_other (with_held held k t n) (held_place k n) (held_place k i) (held_at t n) no_row (λ q. absurd (omega arith))
        ∙ before v

module _ (s : State) (k : ℕ) (t : Task) where
  pub task_at_with_task : Sized s → k < most_tasks → length t.held ≡ most_held → task_at (with_task s k t) k ≡ t
  unfolding task_at with_task held_place held_at
  task_at_with_task z h l =
      same_task _ _
      (get_or-set_same s.conditions k t.condition 0 (rw z.conditions h))
      (get_or-set_same s.waits k t.waits no_row (rw z.waits h))
      (get_or-set_same s.counts k t.count 0 (rw z.counts h))
      (listed_agree most_held _ (λ i. get_or t.held i no_row) (λ i v. with_held_same s.held k t most_held i v (rw z.held (omega arith)))
      ∙ listed_get_or no_row t.held most_held l)

  pub task_at_with_task_other : (j : ℕ) → j ≢ k → task_at (with_task s k t) j ≡ task_at s j
  unfolding task_at with_task held_place
  task_at_with_task_other j n =
      same_task _ _
      (get_or-set_other s.conditions k j t.condition 0 n)
      (get_or-set_other s.waits k j t.waits no_row n)
      (get_or-set_other s.counts k j t.count 0 n)
      (listed_agree most_held _ _ (λ i v. with_held_other s.held k t most_held (held_place j i) (λ m w q. apart m i w v q)))
    where
      apart : (m i : ℕ) → m < most_held → i < most_held → j * most_held + i ≡ k * most_held + m → ⊥
      apart m i a b q = n (omega arith)

  pub left_of_with_task : (c : ℕ) → left_of (with_task s k t) c ≡ left_of s c
  unfolding left_of with_task
  left_of_with_task c = refl

  pub refill_of_with_task : (c : ℕ) → refill_of (with_task s k t) c ≡ refill_of s c
  unfolding refill_of with_task
  refill_of_with_task c = refl

  pub used_of_with_task : (c : ℕ) → used_of (with_task s k t) c ≡ used_of s c
  unfolding used_of with_task
  used_of_with_task c = refl

  pub sized_with_task : Sized s → Sized (with_task s k t)
  unfolding with_task
  sized_with_task z =
      record {
        left = z.left;
        refill = z.refill;
        used = z.used;
        conditions = length-set s.conditions k t.condition ∙ z.conditions;
        waits = length-set s.waits k t.waits ∙ z.waits;
        counts = length-set s.counts k t.count ∙ z.counts;
        held = length_with_held s.held k t most_held ∙ z.held;
      }

module _ (s : State) (c : ℕ) (q : BudgetLeft) where
  pub left_of_with_left : Sized s → c < most_subsystems → left_of (with_left s c q) c ≡ q
  unfolding left_of with_left
  left_of_with_left z h = get_or-set_same s.left c q _ (rw z.left h)

  pub left_of_with_left_other : (d : ℕ) → d ≢ c → left_of (with_left s c q) d ≡ left_of s d
  unfolding left_of with_left
  left_of_with_left_other d n = get_or-set_other s.left c d q _ n

  pub task_at_with_left : (k : ℕ) → task_at (with_left s c q) k ≡ task_at s k
  unfolding task_at with_left
  task_at_with_left k = refl

  pub refill_of_with_left : (d : ℕ) → refill_of (with_left s c q) d ≡ refill_of s d
  unfolding refill_of with_left
  refill_of_with_left d = refl

  pub used_of_with_left : (d : ℕ) → used_of (with_left s c q) d ≡ used_of s d
  unfolding used_of with_left
  used_of_with_left d = refl

  pub sized_with_left : Sized s → Sized (with_left s c q)
  unfolding with_left task_at
  sized_with_left z =
      record {
        left = length-set s.left c q ∙ z.left;
        refill = z.refill;
        used = z.used;
        conditions = z.conditions;
        waits = z.waits;
        counts = z.counts;
        held = z.held;
      }

module _ (s : State) (c n : ℕ) where
  pub used_of_with_used : Sized s → c < most_subsystems → used_of (with_used s c n) c ≡ n
  unfolding used_of with_used
  used_of_with_used z h = get_or-set_same s.used c n 0 (rw z.used h)

  pub used_of_with_used_other : (d : ℕ) → d ≢ c → used_of (with_used s c n) d ≡ used_of s d
  unfolding used_of with_used
  used_of_with_used_other d m = get_or-set_other s.used c d n 0 m

  pub task_at_with_used : (k : ℕ) → task_at (with_used s c n) k ≡ task_at s k
  unfolding task_at with_used
  task_at_with_used k = refl

  pub left_of_with_used : (d : ℕ) → left_of (with_used s c n) d ≡ left_of s d
  unfolding left_of with_used
  left_of_with_used d = refl

  pub refill_of_with_used : (d : ℕ) → refill_of (with_used s c n) d ≡ refill_of s d
  unfolding refill_of with_used
  refill_of_with_used d = refl

  pub sized_with_used : Sized s → Sized (with_used s c n)
  unfolding with_used task_at
  sized_with_used z =
      record {
        left = z.left;
        refill = z.refill;
        used = length-set s.used c n ∙ z.used;
        conditions = z.conditions;
        waits = z.waits;
        counts = z.counts;
        held = z.held;
      }
