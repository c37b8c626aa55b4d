-- The plan block both ways: what a block reads as is written as the block again, and a plan's block reads as the plan.
use Rattle.std.proofs.Common.{◌≡◌, refl, sym, ap, ap₂, ◌∙◌, Bool, true, false, ◌&&◌, true≢false, List, [], ◌∷◌, ◌++◌, ℕ, ◌+◌, ◌*◌, ◌<◌, add_assoc, arith, eqb, length, get_or, drop, length-drop, take_all, drop-drop, drop_at, get_or-drop, eqb-true, eq-eqb, ne_eqb}
use mathlib.Core.Bool.{and-eq-true_iff}
use lib.ListN.{get_or-append}
use borrow.Author.Tests.{eqb-false}
use Rattle.below.specs.Listed.{listed}
use Rattle.below.proofs.Listed.{listed_is}
use Rattle.text.specs.Bytes.{same}
use Rattle.plan.specs.declared.Plan.{Plan}
use Rattle.plan.specs.Limits.{most_subsystems, most_tasks, most_resources}
use Rattle.plan.specs.Accepted.{accepted}
use Rattle.std.specs.Prelude.{Result, Ok, Err}
use Rattle.image.specs.declared.Unopened.{Unopened}
use Rattle.image.specs.declared.Unopened.TheVariants.{Length, Block}
use Rattle.image.specs.Numbers.{number_of, number_in}
use Rattle.image.specs.Words.{words, byte_at, word_at}
use Rattle.image.specs.Block.{block_bytes, subsystem_words, block_of, plan_of, is_block, block_number}
use Rattle.image.specs.BlockCalls.{block_read}
use Rattle.image.proofs.Parts.{bytes_part, words_part, subsystems_part, rejoined, four}
use Rattle.image.proofs.WordLaws.{HasWord, word_read, word_after, word_before, words_has, length_subsystem_words, periods_has, budgets_has}

pub block_of_plan_of : (b : List ℕ) → length b ≡ block_bytes → ((k : ℕ) → get_or b k 0 < 256) → byte_at b 3 ≡ 0 → block_of (plan_of b) ≡ b
unfolding block_of plan_of byte_at
block_of_plan_of b e small z =
    ap₂ (λ (h : ℕ) (l : List ℕ). get_or b 0 0 ∷ get_or b 1 0 ∷ get_or b 2 0 ∷ h ∷ l) (sym z) sections ∙ four b (omega arith)
  where
    last : words (plan_of b).lengths ≡ drop 84 b
    last = words_part b 84 small 512 (omega arith) ∙ take_all 1024 (drop 84 b) (omega (arith, length-drop 84 b))

    sections : subsystem_words (plan_of b).periods (plan_of b).budgets ++ ((plan_of b).owners ++ ((plan_of b).kinds ++ words (plan_of b).lengths)) ≡ drop 4 b
    sections =
        ap₂ ◌++◌ (subsystems_part b 4 small 8 (omega arith))
        (ap₂ ◌++◌ (bytes_part b 36 32 (omega arith)) (ap₂ ◌++◌ (bytes_part b 68 16 (omega arith)) last ∙ rejoined b 68 16) ∙ rejoined b 36 32)
        ∙ rejoined b 4 32

-- a plan whose tables are as long as its type says
pub record Sized (p : Plan) : Type 0 where
  pub periods : length p.periods ≡ most_subsystems
  pub budgets : length p.budgets ≡ most_subsystems
  pub owners : length p.owners ≡ most_tasks
  pub kinds : length p.kinds ≡ most_resources
  pub lengths : length p.lengths ≡ 512

module _ (p : Plan) (sized : Sized p) where
  -- where the sections of its block begin

  at_subsystems : drop 4 (block_of p) ≡ subsystem_words p.periods p.budgets ++ (p.owners ++ (p.kinds ++ words p.lengths))
  unfolding block_of
  at_subsystems = refl

  equally : length p.periods ≡ length p.budgets
  equally = sized.periods ∙ sym sized.budgets

  pub subsystems_long : length (subsystem_words p.periods p.budgets) ≡ 32
  subsystems_long = omega (arith, length_subsystem_words p.periods p.budgets equally, sized.periods)

  behind : (l m : List ℕ) (n k : ℕ) → drop n (block_of p) ≡ l ++ m → length l ≡ k → drop (n + k) (block_of p) ≡ m
  behind l m n k e h = sym (drop-drop k n (block_of p)) ∙ ap (drop k) e ∙ drop_at l m k h

  at_owners : drop 36 (block_of p) ≡ p.owners ++ (p.kinds ++ words p.lengths)
  at_owners = behind (subsystem_words p.periods p.budgets) (p.owners ++ (p.kinds ++ words p.lengths)) 4 32 at_subsystems subsystems_long

  at_kinds : drop 68 (block_of p) ≡ p.kinds ++ words p.lengths
  at_kinds = behind p.owners (p.kinds ++ words p.lengths) 36 32 at_owners sized.owners

  at_lengths : drop 84 (block_of p) ≡ words p.lengths
  at_lengths = behind p.kinds (words p.lengths) 68 16 at_kinds sized.kinds

  -- what is read there

  byte_read : (l m : List ℕ) (n k : ℕ) → drop n (block_of p) ≡ l ++ m → k < length l → byte_at (block_of p) (n + k) ≡ get_or l k 0
  unfolding byte_at
  byte_read l m n k e h = sym (get_or-drop n (block_of p) k 0) ∙ ap (λ (r : List ℕ). get_or r k 0) e ∙ get_or-append l m 0 k h

  subsystem_word : (j w : ℕ) → j + 1 < 32 → HasWord (subsystem_words p.periods p.budgets) j w → word_at (block_of p) (4 + j) ≡ w
  subsystem_word j w h has =
      word_read (block_of p) (4 + j) w
      (word_after (block_of p) 4 j w (rw at_subsystems (word_before _ (p.owners ++ (p.kinds ++ words p.lengths)) j w (rw subsystems_long h) has)))

  counts : (byte_at (block_of p) 0 ≡ p.subsystems) × (byte_at (block_of p) 1 ≡ p.tasks) × (byte_at (block_of p) 2 ≡ p.resources)
  unfolding block_of byte_at
  counts = (refl, refl, refl)

  periods_read : listed 8 (λ s. word_at (block_of p) (4 + 4 * s)) ≡ p.periods
  periods_read =
      sym (listed_is 8 (λ s. word_at (block_of p) (4 + 4 * s)) 0 p.periods sized.periods
      (λ s u. sym (subsystem_word (4 * s) (get_or p.periods s 0) (omega arith) (periods_has p.periods p.budgets s equally (omega (arith, sized.periods))))))

  budgets_read : listed 8 (λ s. word_at (block_of p) (4 + 4 * s + 2)) ≡ p.budgets
  budgets_read =
      sym (listed_is 8 (λ s. word_at (block_of p) (4 + 4 * s + 2)) 0 p.budgets sized.budgets
      (λ s u. sym (ap (word_at (block_of p)) (add_assoc 4 (4 * s) 2)
      ∙ subsystem_word (4 * s + 2) (get_or p.budgets s 0) (omega arith) (budgets_has p.periods p.budgets s equally (omega (arith, sized.periods))))))

  owners_read : listed 32 (λ t. byte_at (block_of p) (36 + t)) ≡ p.owners
  owners_read =
      sym (listed_is 32 (λ t. byte_at (block_of p) (36 + t)) 0 p.owners sized.owners
      (λ t u. sym (byte_read p.owners (p.kinds ++ words p.lengths) 36 t at_owners (omega (arith, sized.owners)))))

  kinds_read : listed 16 (λ r. byte_at (block_of p) (68 + r)) ≡ p.kinds
  kinds_read =
      sym (listed_is 16 (λ r. byte_at (block_of p) (68 + r)) 0 p.kinds sized.kinds
      (λ r u. sym (byte_read p.kinds (words p.lengths) 68 r at_kinds (omega (arith, sized.kinds)))))

  lengths_read : listed 512 (λ i. word_at (block_of p) (84 + 2 * i)) ≡ p.lengths
  lengths_read =
      sym (listed_is 512 (λ i. word_at (block_of p) (84 + 2 * i)) 0 p.lengths sized.lengths
      (λ i u. sym (word_read (block_of p) (84 + 2 * i) (get_or p.lengths i 0)
      (word_after (block_of p) 84 (2 * i) (get_or p.lengths i 0) (rw at_lengths (words_has p.lengths i (omega (arith, sized.lengths))))))))

  pub plan_of_block_of : plan_of (block_of p) ≡ p
  unfolding plan_of
  plan_of_block_of = rw (counts.0, counts.1, counts.2, periods_read, budgets_read, owners_read, kinds_read, lengths_read)

-- same: two texts are the same exactly when the test says so

pub same_refl : (l : List ℕ) → same l l ≡ true
unfolding same
same_refl [] = refl
same_refl (a ∷ l) = rw (eq-eqb a a refl) (same_refl l)

pub same_true : (l m : List ℕ) → same l m ≡ true → l ≡ m
unfolding same
same_true [] [] e = refl
same_true [] (b ∷ m) e = absurd (true≢false (sym e))
same_true (a ∷ l) [] e = absurd (true≢false (sym e))
same_true (a ∷ l) (b ∷ m) e =
    let t = (and-eq-true_iff (eqb a b) (same l m)).0 e in
    ap₂ (λ (h : ℕ) (r : List ℕ). h ∷ r) (eqb-true a b t.0) (same_true l m t.1)

third : (p : Plan) → byte_at (block_of p) 3 ≡ 0
unfolding block_of byte_at
third p = refl

-- so a block of bytes is written again exactly when its byte 3 is 0
pub same_block : (b : List ℕ) → length b ≡ block_bytes → ((k : ℕ) → get_or b k 0 < 256) → same (block_of (plan_of b)) b ≡ eqb (byte_at b 3) 0
same_block b e small = go (eqb (byte_at b 3) 0) refl (same (block_of (plan_of b)) b) refl
  where
    go : (t : Bool) → eqb (byte_at b 3) 0 ≡ t → (u : Bool) → same (block_of (plan_of b)) b ≡ u → u ≡ t
    go true et u eu =
        sym eu ∙ ap (λ (l : List ℕ). same l b) (block_of_plan_of b e small (eqb-true (byte_at b 3) 0 et)) ∙ same_refl b
    go false et true eu =
        absurd (eqb-false (byte_at b 3) 0 et (ap (λ (l : List ℕ). byte_at l 3) (sym (same_true (block_of (plan_of b)) b eu)) ∙ third (plan_of b)))
    go false et false eu = refl

-- what the code tests of a block: its length, byte 3, and that its plan is accepted

pub is_block_lem : (b : List ℕ) → length b ≡ block_bytes → ((k : ℕ) → get_or b k 0 < 256) → is_block b ≡ (accepted (plan_of b) && eqb (byte_at b 3) 0)
unfolding is_block
is_block_lem b e small = ap (λ (t : Bool). accepted (plan_of b) && t) (same_block b e small)

-- what the code answers of a block, test by test
module _ (b : List ℕ) where
  abbrev read_by : Bool → Bool → Result Plan Unopened
  read_by long is = elim long [ false ↦ Err Length | true ↦ elim is [ false ↦ Err Block | true ↦ Ok (plan_of b) ] ]

  pub read_short : (length b ≡ block_bytes → ⊥) → Err Length ≡ block_read b
  unfolding block_read
  read_short h = sym (ap (λ (long : Bool). read_by long (is_block b)) (ne_eqb (length b) block_bytes h))

  module _ (long : length b ≡ block_bytes) where
    pub read_refused : is_block b ≡ false → Err Block ≡ block_read b
    unfolding block_read
    read_refused f = sym (ap₂ read_by (eq-eqb (length b) block_bytes long) f)

    pub read_accepted : is_block b ≡ true → Ok (plan_of b) ≡ block_read b
    unfolding block_read
    read_accepted t = sym (ap₂ read_by (eq-eqb (length b) block_bytes long) t)

  -- its number is the one that "Calls from C" says
  pub read_number : number_in (block_read b) ≡ block_number b
  unfolding block_read block_number number_in number_of
  read_number = go (eqb (length b) block_bytes) (is_block b)
    where
      go : (long is : Bool) → number_in (read_by long is) ≡ elim long [ false ↦ 34 | true ↦ elim is [ false ↦ 31 | true ↦ 0 ] ]
      go false is = refl
      go true false = refl
      go true true = refl
