-- Laws of numbers of 16 bits in lists of bytes: where the two bytes of each stand in the sections of a block, and how they are read there.
use Rattle.std.proofs.Common.{◌≡◌, refl, sym, ◌∙◌, List, [], ◌∷◌, ◌++◌, ℕ, zero, suc, ◌+◌, ◌*◌, ◌/◌, ◌%◌, ◌<◌, add_assoc, le_of_suc-le-suc, not-suc-le-zero, add-one, arith, length, get_or, drop, get_or-drop}
use native.Mathlib.Nat.{mod-add-div}
use lib.ListN.{get_or-append}
use Rattle.image.specs.Words.{word, words, byte_at, word_at}
use Rattle.image.specs.Block.{subsystem_words}

-- the two bytes of w stand at j
pub record HasWord (l : List ℕ) (j w : ℕ) : Type 0 where
  pub low : get_or l j 0 ≡ w % 256
  pub high : get_or l (j + 1) 0 ≡ w / 256

-- so w is read there
pub word_read : (l : List ℕ) (j w : ℕ) → HasWord l j w → word_at l j ≡ w
unfolding word_at byte_at
word_read l j w h = rw (h.low, h.high) (mod-add-div w 256)

-- a place in what is left of a list, and in a list with more behind it

pub word_after : (l : List ℕ) (n j w : ℕ) → HasWord (drop n l) j w → HasWord l (n + j) w
word_after l n j w h =
    record {
      low = sym (get_or-drop n l j 0) ∙ h.low;
      high = rw add_assoc (sym (get_or-drop n l (j + 1) 0) ∙ h.high);
    }

pub word_before : (l m : List ℕ) (j w : ℕ) → j + 1 < length l → HasWord l j w → HasWord (l ++ m) j w
word_before l m j w u h =
    record {
      low = get_or-append l m 0 j (omega arith) ∙ h.low;
      high = get_or-append l m 0 (j + 1) u ∙ h.high;
    }

word_further : (l : List ℕ) (a b j w : ℕ) (k : ℕ) → k ≡ suc (suc j) → HasWord l j w → HasWord (a ∷ b ∷ l) k w
word_further l a b j w k e h = rw e (record { low = h.low; high = rw add-one (rw add-one at h.high) })

word_first : (l : List ℕ) (w k : ℕ) → k ≡ 0 → HasWord (word w ++ l) k w
unfolding word
word_first l w k e = rw e (record { low = refl; high = refl })

-- words: the word of entry i stands at 2 * i

pub length_words : (l : List ℕ) → length (words l) ≡ 2 * length l
unfolding words word
length_words [] = refl
length_words (n ∷ l) = omega (arith, length_words l)

pub words_has : (l : List ℕ) (i : ℕ) → i < length l → HasWord (words l) (2 * i) (get_or l i 0)
unfolding words word
words_has [] i h = absurd (not-suc-le-zero h)
words_has (n ∷ l) zero h = word_first (words l) n (2 * 0) refl
words_has (n ∷ l) (suc i) h = word_further (words l) (n % 256) (n / 256) (2 * i) (get_or l i 0) (2 * suc i) (omega arith) (words_has l i (le_of_suc-le-suc h))

-- subsystem_words: period and budget of row s stand at 4 * s and 4 * s + 2

pub length_subsystem_words : (ps qs : List ℕ) → length ps ≡ length qs → length (subsystem_words ps qs) ≡ 4 * length ps
unfolding subsystem_words word
length_subsystem_words [] qs e = refl
length_subsystem_words (p ∷ ps) [] e = absurd (omega arith)
length_subsystem_words (p ∷ ps) (q ∷ qs) e = omega (arith, length_subsystem_words ps qs (omega arith))

pub periods_has : (ps qs : List ℕ) (s : ℕ) → length ps ≡ length qs → s < length ps → HasWord (subsystem_words ps qs) (4 * s) (get_or ps s 0)
unfolding subsystem_words word
periods_has [] qs s e h = absurd (not-suc-le-zero h)
periods_has (p ∷ ps) [] s e h = absurd (omega arith)
periods_has (p ∷ ps) (q ∷ qs) zero e h = word_first (word q ++ subsystem_words ps qs) p (4 * 0) refl
periods_has (p ∷ ps) (q ∷ qs) (suc s) e h =
    word_further (word q ++ subsystem_words ps qs) (p % 256) (p / 256) (2 + 4 * s) (get_or ps s 0) (4 * suc s) (omega arith)
    (word_further (subsystem_words ps qs) (q % 256) (q / 256) (4 * s) (get_or ps s 0) (2 + 4 * s) (omega arith)
    (periods_has ps qs s (omega arith) (le_of_suc-le-suc h)))

pub budgets_has : (ps qs : List ℕ) (s : ℕ) → length ps ≡ length qs → s < length ps → HasWord (subsystem_words ps qs) (4 * s + 2) (get_or qs s 0)
unfolding subsystem_words word
budgets_has [] qs s e h = absurd (not-suc-le-zero h)
budgets_has (p ∷ ps) [] s e h = absurd (omega arith)
budgets_has (p ∷ ps) (q ∷ qs) zero e h =
    word_further (word q ++ subsystem_words ps qs) (p % 256) (p / 256) 0 q (4 * 0 + 2) refl (word_first (subsystem_words ps qs) q 0 refl)
budgets_has (p ∷ ps) (q ∷ qs) (suc s) e h =
    word_further (word q ++ subsystem_words ps qs) (p % 256) (p / 256) (2 + (4 * s + 2)) (get_or qs s 0) (4 * suc s + 2) (omega arith)
    (word_further (subsystem_words ps qs) (q % 256) (q / 256) (4 * s + 2) (get_or qs s 0) (2 + (4 * s + 2)) (omega arith)
    (budgets_has ps qs s (omega arith) (le_of_suc-le-suc h)))
