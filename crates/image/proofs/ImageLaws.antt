-- The image of a state: its length, what stands at each place of it, and that it reads as the state again.
use Rattle.std.proofs.Common.{◌≡◌, refl, sym, ap, ◌∙◌, List, [], ◌∷◌, ℕ, ◌+◌, ◌*◌, ◌/◌, ◌%◌, ◌<◌, add_assoc, add-zero, arith, length, get_or, length-append, get_or-drop, get_or-append-add}
use lib.ListN.{get_or-append}
use Rattle.below.specs.Listed.{listed, listed_onto}
use Rattle.below.proofs.Listed.{get_or_listed, listed_is}
use Rattle.plan.specs.Limits.{most_subsystems, most_tasks, no_row}
use Rattle.state.specs.declared.State.{State}
use Rattle.state.specs.declared.BudgetLeft.{BudgetLeft}
use Rattle.state.specs.State.{most_held, held_place, task_at, left_of, refill_of, used_of}
use Rattle.state.specs.Sized.{Sized}
use Rattle.image.specs.Words.{word, byte_at, word_at}
use Rattle.image.specs.Image.{image_bytes, subsystem_bytes, task_bytes, joined, image_of, task_byte_at, state_of}
use Rattle.image.proofs.WordLaws.{word_read}
use Rattle.image.proofs.Rows.{length_rows, row_byte}

module _ (s : State) where
  -- every row has eight bytes

  pub subsystem_eight : (c : ℕ) → length (subsystem_bytes s c) ≡ 8
  unfolding subsystem_bytes word
  subsystem_eight c = refl

  pub task_eight : (k : ℕ) → length (task_bytes (task_at s k)) ≡ 8
  unfolding task_bytes task_at listed listed_onto
  task_eight k = refl

  abbrev subsystem_rows : List ℕ
  subsystem_rows = joined (listed most_subsystems (subsystem_bytes s))

  abbrev task_rows : List ℕ
  task_rows = joined (listed most_tasks (λ k. task_bytes (task_at s k)))

  pub subsystems_long : length subsystem_rows ≡ 64
  subsystems_long = length_rows (subsystem_bytes s) subsystem_eight 8

  pub tasks_long : length task_rows ≡ 256
  tasks_long = length_rows (λ k. task_bytes (task_at s k)) task_eight 32

  -- an image has its 320 bytes, whatever the state
  pub image_length : length (image_of s) ≡ image_bytes
  unfolding image_of
  image_length = length-append subsystem_rows task_rows ∙ omega (arith, subsystems_long, tasks_long)

  -- what stands where

  subsystem_byte : (c i : ℕ) → c < most_subsystems → i < 8 → get_or (image_of s) (8 * c + i) 0 ≡ get_or (subsystem_bytes s c) i 0
  unfolding image_of
  subsystem_byte c i h l =
      get_or-append subsystem_rows task_rows 0 (8 * c + i) (omega (arith, subsystems_long))
      ∙ row_byte (subsystem_bytes s) subsystem_eight 8 c i h l

  task_byte : (k i : ℕ) → k < most_tasks → i < 8 → byte_at (image_of s) (task_byte_at k i) ≡ get_or (task_bytes (task_at s k)) i 0
  unfolding image_of byte_at task_byte_at
  task_byte k i h l =
      let place : 64 + 8 * k + i ≡ length subsystem_rows + (8 * k + i) = omega (arith, subsystems_long) in
      ap (λ (n : ℕ). get_or (image_of s) n 0) place
      ∙ get_or-append-add subsystem_rows task_rows (8 * k + i) 0
      ∙ row_byte (λ k. task_bytes (task_at s k)) task_eight 32 k i h l

  subsystem_word : (c j w : ℕ) → c < most_subsystems → j + 1 < 8 → get_or (subsystem_bytes s c) j 0 ≡ w % 256 → get_or (subsystem_bytes s c) (j + 1) 0 ≡ w / 256
      → word_at (image_of s) (8 * c + j) ≡ w
  subsystem_word c j w h l low high =
      word_read (image_of s) (8 * c + j) w
      (record {
        low = subsystem_byte c j h (omega arith) ∙ low;
        high = rw add_assoc (subsystem_byte c (j + 1) h l ∙ high);
      })

  pub left_word : (c : ℕ) → c < most_subsystems → word_at (image_of s) (8 * c) ≡ (left_of s c).0
  unfolding subsystem_bytes word
  left_word c h = ap (word_at (image_of s)) (sym (add-zero (8 * c))) ∙ subsystem_word c 0 (left_of s c).0 h (omega arith) refl refl

  pub refill_word : (c : ℕ) → c < most_subsystems → word_at (image_of s) (8 * c + 2) ≡ refill_of s c
  unfolding subsystem_bytes word
  refill_word c h = subsystem_word c 2 (refill_of s c) h (omega arith) refl refl

  pub used_word : (c : ℕ) → c < most_subsystems → word_at (image_of s) (8 * c + 4) ≡ used_of s c
  unfolding subsystem_bytes word
  used_word c h = subsystem_word c 4 (used_of s c) h (omega arith) refl refl

  pub pad_word : (c : ℕ) → c < most_subsystems → word_at (image_of s) (8 * c + 6) ≡ 0
  unfolding subsystem_bytes word
  pad_word c h = subsystem_word c 6 0 h (omega arith) refl refl

  pub condition_byte : (k : ℕ) → k < most_tasks → byte_at (image_of s) (task_byte_at k 0) ≡ get_or s.conditions k 0
  unfolding task_bytes task_at
  condition_byte k h = task_byte k 0 h (omega arith)

  pub waits_byte : (k : ℕ) → k < most_tasks → byte_at (image_of s) (task_byte_at k 1) ≡ get_or s.waits k no_row
  unfolding task_bytes task_at
  waits_byte k h = task_byte k 1 h (omega arith)

  pub count_byte : (k : ℕ) → k < most_tasks → byte_at (image_of s) (task_byte_at k 2) ≡ get_or s.counts k 0
  unfolding task_bytes task_at
  count_byte k h = task_byte k 2 h (omega arith)

  pub held_byte : (k j : ℕ) → k < most_tasks → j < most_held → byte_at (image_of s) (task_byte_at k (3 + j)) ≡ get_or s.held (held_place k j) no_row
  unfolding task_bytes task_at listed listed_onto
  held_byte k j h l =
      task_byte k (3 + j) h (omega arith)
      ∙ sym (get_or-drop 3 (task_bytes (task_at s k)) j 0)
      ∙ get_or-append (task_at s k).held (0 ∷ []) 0 j l
      ∙ get_or_listed most_held (λ i. get_or s.held (held_place k i) no_row) j 0 l

  pub pad_byte : (k : ℕ) → k < most_tasks → byte_at (image_of s) (task_byte_at k 7) ≡ 0
  unfolding task_bytes task_at listed listed_onto
  pad_byte k h = task_byte k 7 h (omega arith)

module _ (s : State) (sized : Sized s) where
  -- each column is read again

  left_read : listed most_subsystems (λ c. record { 0 = word_at (image_of s) (8 * c) }) ≡ s.left
  unfolding left_of
  left_read =
      sym (listed_is 8 (λ c. record { 0 = word_at (image_of s) (8 * c) }) (record { 0 = 0 }) s.left sized.left
      (λ c h. ap {B = BudgetLeft} (λ (n : ℕ). record { 0 = n }) (sym (left_word s c h))))

  refill_read : listed most_subsystems (λ c. word_at (image_of s) (8 * c + 2)) ≡ s.refill
  unfolding refill_of
  refill_read = sym (listed_is 8 (λ c. word_at (image_of s) (8 * c + 2)) 0 s.refill sized.refill (λ c h. sym (refill_word s c h)))

  used_read : listed most_subsystems (λ c. word_at (image_of s) (8 * c + 4)) ≡ s.used
  unfolding used_of
  used_read = sym (listed_is 8 (λ c. word_at (image_of s) (8 * c + 4)) 0 s.used sized.used (λ c h. sym (used_word s c h)))

  conditions_read : listed most_tasks (λ k. byte_at (image_of s) (task_byte_at k 0)) ≡ s.conditions
  conditions_read =
      sym (listed_is 32 (λ k. byte_at (image_of s) (task_byte_at k 0)) 0 s.conditions sized.conditions (λ k h. sym (condition_byte s k h)))

  waits_read : listed most_tasks (λ k. byte_at (image_of s) (task_byte_at k 1)) ≡ s.waits
  waits_read = sym (listed_is 32 (λ k. byte_at (image_of s) (task_byte_at k 1)) no_row s.waits sized.waits (λ k h. sym (waits_byte s k h)))

  counts_read : listed most_tasks (λ k. byte_at (image_of s) (task_byte_at k 2)) ≡ s.counts
  counts_read = sym (listed_is 32 (λ k. byte_at (image_of s) (task_byte_at k 2)) 0 s.counts sized.counts (λ k h. sym (count_byte s k h)))

  held_read : listed 128 (λ i. byte_at (image_of s) (task_byte_at (i / most_held) (3 + i % most_held))) ≡ s.held
  unfolding held_place
  held_read =
      sym (listed_is 128 (λ i. byte_at (image_of s) (task_byte_at (i / most_held) (3 + i % most_held))) no_row s.held sized.held
      (λ i h.
      let place : i ≡ i / 4 * 4 + i % 4 = omega arith in
      ap (λ (n : ℕ). get_or s.held n no_row) place ∙ sym (held_byte s (i / 4) (i % 4) (omega arith) (omega arith))))

  -- an image reads as its state
  pub image_back : state_of (image_of s) ≡ s
  unfolding state_of
  image_back = rw (left_read, refill_read, used_read, conditions_read, waits_read, counts_read, held_read)
