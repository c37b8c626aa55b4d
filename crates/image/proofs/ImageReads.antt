-- What is read from 320 bytes is written as the same bytes again, exactly where the bytes that are 0 in every image are 0.
use Rattle.std.proofs.Common.{◌≡◌, sym, ap, ap₂, ◌∙◌, Bool, true, ◌&&◌, List, [], ◌∷◌, ◌++◌, ℕ, ◌+◌, ◌*◌, ◌/◌, ◌%◌, ◌<◌, add_assoc, add-zero, zero-add, arith, length, get_or, take, drop, length-drop, take-append-drop, take_all, eqb-true, eq-eqb}
use Rattle.below.specs.Below.{all}
use Rattle.below.specs.Listed.{listed, listed_onto}
use Rattle.below.proofs.Listed.{length_listed, get_or_listed, listed_agree}
use Rattle.below.proofs.Search.{all_at, all_of}
use Rattle.below.proofs.Tests.{and_left, and_right, and_of, same_truth}
use Rattle.text.specs.Bytes.{same}
use Rattle.plan.specs.declared.Plan.{Plan}
use Rattle.plan.specs.Limits.{most_subsystems, most_tasks, no_row}
use Rattle.state.specs.State.{most_held, held_place, task_at, left_of, refill_of, used_of}
use Rattle.state.specs.Sized.{Sized}
use Rattle.legal.specs.Legal.{legal}
use Rattle.image.specs.Words.{word, byte_at, word_at}
use Rattle.image.specs.Image.{image_bytes, subsystem_bytes, task_bytes, joined, image_of, task_byte_at, state_of, is_image}
use Rattle.image.specs.Pads.{subsystem_pad, task_pad, pads_zero}
use Rattle.image.proofs.BlockLaws.{same_refl, same_true}
use Rattle.image.proofs.Parts.{word_again, bytes_part}
use Rattle.image.proofs.Rows.{rows_part}
use Rattle.image.proofs.ImageLaws.{pad_word, pad_byte}

module _ (b : List ℕ) where
  -- what the state says of each row

  left_of_lem : (c : ℕ) → c < most_subsystems → (left_of (state_of b) c).0 ≡ word_at b (8 * c)
  unfolding left_of state_of
  left_of_lem c h = rw (get_or_listed most_subsystems _ c _ h)

  refill_of_lem : (c : ℕ) → c < most_subsystems → refill_of (state_of b) c ≡ word_at b (8 * c + 2)
  unfolding refill_of state_of
  refill_of_lem c h = get_or_listed most_subsystems (λ c. word_at b (8 * c + 2)) c 0 h

  used_of_lem : (c : ℕ) → c < most_subsystems → used_of (state_of b) c ≡ word_at b (8 * c + 4)
  unfolding used_of state_of
  used_of_lem c h = get_or_listed most_subsystems (λ c. word_at b (8 * c + 4)) c 0 h

  condition_of : (k : ℕ) → k < most_tasks → get_or (state_of b).conditions k 0 ≡ byte_at b (task_byte_at k 0)
  unfolding state_of
  condition_of k h = get_or_listed most_tasks (λ k. byte_at b (task_byte_at k 0)) k 0 h

  waits_of : (k : ℕ) → k < most_tasks → get_or (state_of b).waits k no_row ≡ byte_at b (task_byte_at k 1)
  unfolding state_of
  waits_of k h = get_or_listed most_tasks (λ k. byte_at b (task_byte_at k 1)) k no_row h

  count_of : (k : ℕ) → k < most_tasks → get_or (state_of b).counts k 0 ≡ byte_at b (task_byte_at k 2)
  unfolding state_of
  count_of k h = get_or_listed most_tasks (λ k. byte_at b (task_byte_at k 2)) k 0 h

  held_of : (k j : ℕ) → k < most_tasks → j < most_held → get_or (state_of b).held (held_place k j) no_row ≡ byte_at b (task_byte_at k (3 + j))
  unfolding state_of held_place
  held_of k j h l =
      let row : (k * 4 + j) / 4 ≡ k = omega arith in
      let place : 3 + (k * 4 + j) % 4 ≡ 3 + j = omega arith in
      get_or_listed 128 (λ i. byte_at b (task_byte_at (i / most_held) (3 + i % most_held))) (k * 4 + j) no_row (omega arith)
      ∙ ap₂ (λ (m n : ℕ). byte_at b (task_byte_at m n)) row place

  -- its lists have their lengths
  pub state_of_sized : Sized (state_of b)
  unfolding state_of
  state_of_sized =
      record {
        left = length_listed most_subsystems _;
        refill = length_listed most_subsystems _;
        used = length_listed most_subsystems _;
        conditions = length_listed most_tasks _;
        waits = length_listed most_tasks _;
        counts = length_listed most_tasks _;
        held = length_listed 128 _;
      }

  module _ (long : length b ≡ image_bytes) (small : (k : ℕ) → get_or b k 0 < 256) where
    -- a word is written as the two bytes that it was read from
    word_of : (at i : ℕ) → word (word_at b (at + i)) ≡ byte_at b (at + i) ∷ byte_at b (at + (i + 1)) ∷ []
    unfolding byte_at
    word_of at i = word_again b (at + i) (small (at + i)) ∙ ap (λ (k : ℕ). get_or b (at + i) 0 ∷ get_or b k 0 ∷ []) (add_assoc at i 1)

    subsystem_row : (c : ℕ) → c < most_subsystems → word_at b (8 * c + 6) ≡ 0 → subsystem_bytes (state_of b) c ≡ take 8 (drop (0 + 8 * c) b)
    unfolding subsystem_bytes listed listed_onto
    subsystem_row c h pad =
        let first : 8 * c ≡ 8 * c + 0 = sym (add-zero (8 * c)) in
        rw (left_of_lem c h ∙ ap (word_at b) first, refill_of_lem c h, used_of_lem c h, zero-add)
        (ap (λ (n : ℕ). word (word_at b (8 * c + 0)) ++ (word (word_at b (8 * c + 2)) ++ (word (word_at b (8 * c + 4)) ++ word n))) (sym pad)
        ∙ rw (word_of (8 * c) 0, word_of (8 * c) 2, word_of (8 * c) 4, word_of (8 * c) 6) (bytes_part b (8 * c) 8 (omega arith)))

    task_row : (k : ℕ) → k < most_tasks → byte_at b (task_byte_at k 7) ≡ 0 → task_bytes (task_at (state_of b) k) ≡ take 8 (drop (64 + 8 * k) b)
    unfolding task_bytes task_at task_byte_at listed listed_onto
    task_row k h pad =
        rw (condition_of k h, waits_of k h, count_of k h, held_of k 0 h (omega arith), held_of k 1 h (omega arith), held_of k 2 h (omega arith), held_of k 3 h (omega arith))
        (ap (λ (n : ℕ).
        byte_at b (task_byte_at k 0) ∷ byte_at b (task_byte_at k 1) ∷ byte_at b (task_byte_at k 2)
        ∷ byte_at b (task_byte_at k 3) ∷ byte_at b (task_byte_at k 4) ∷ byte_at b (task_byte_at k 5) ∷ byte_at b (task_byte_at k 6) ∷ n ∷ []) (sym pad)
        ∙ bytes_part b (64 + 8 * k) 8 (omega arith))

    -- what is read is written again
    pub image_of_state_of : pads_zero b ≡ true → image_of (state_of b) ≡ b
    unfolding image_of pads_zero subsystem_pad task_pad
    image_of_state_of z =
        ap₂ ◌++◌
        (ap joined (listed_agree 8 (subsystem_bytes (state_of b)) (λ c. take 8 (drop (0 + 8 * c) b))
        (λ c h. subsystem_row c h (eqb-true _ 0 (all_at most_subsystems (subsystem_pad b) (and_left _ _ z) c h))))
        ∙ rows_part b 0 8)
        (ap joined (listed_agree 32 (λ k. task_bytes (task_at (state_of b) k)) (λ k. take 8 (drop (64 + 8 * k) b))
        (λ k h. task_row k h (eqb-true _ 0 (all_at most_tasks (task_pad b) (and_right (all most_subsystems (subsystem_pad b)) _ z) k h))))
        ∙ rows_part b 64 32
        ∙ take_all 256 (drop 64 b) (omega (arith, length-drop 64 b)))
        ∙ take-append-drop 64 b

    -- and only then
    pads_of : image_of (state_of b) ≡ b → pads_zero b ≡ true
    unfolding pads_zero subsystem_pad task_pad
    pads_of e =
        and_of _ _
        (all_of most_subsystems _ (λ c h. eq-eqb _ 0 (ap (λ (l : List ℕ). word_at l (8 * c + 6)) (sym e) ∙ pad_word (state_of b) c h)))
        (all_of most_tasks _ (λ k h. eq-eqb _ 0 (ap (λ (l : List ℕ). byte_at l (task_byte_at k 7)) (sym e) ∙ pad_byte (state_of b) k h)))

    same_image : same (image_of (state_of b)) b ≡ pads_zero b
    same_image =
        same_truth _ _
        (λ t. pads_of (same_true (image_of (state_of b)) b t))
        (λ z. ap (λ (l : List ℕ). same l b) (image_of_state_of z) ∙ same_refl b)

    -- what the code tests of an image of the right length
    pub is_image_lem : (p : Plan) → is_image p b ≡ (legal p (state_of b) && pads_zero b)
    unfolding is_image
    is_image_lem p = ap (λ (t : Bool). legal p (state_of b) && t) same_image
