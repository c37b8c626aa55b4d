-- What is read from a list of bytes, written again, is that part of the list.
use Rattle.std.proofs.Common.{◌≡◌, refl, sym, ap, ap₂, ◌∙◌, List, [], ◌∷◌, ◌++◌, append_assoc, ℕ, zero, suc, ◌+◌, ◌*◌, ◌/◌, ◌%◌, ◌≤◌, ◌<◌, add_assoc, arith, length, get_or, take, drop, length-take, length-drop, take-append-drop, take-suc, drop-drop, get_or-drop, get_or-take}
use Rattle.below.specs.Listed.{listed, listed_onto}
use Rattle.below.proofs.Listed.{length_listed, listed_suc, listed_is}
use Rattle.image.specs.Words.{word, words, byte_at, word_at}
use Rattle.image.specs.Block.{subsystem_words}

-- sections that grow at their end

pub words_append : (l m : List ℕ) → words (l ++ m) ≡ words l ++ words m
unfolding words
words_append [] m = refl
words_append (n ∷ l) m = ap (λ (r : List ℕ). word n ++ r) (words_append l m) ∙ sym (append_assoc (word n) (words l) (words m))

pub subsystem_words_append : (ps qs : List ℕ) (p q : ℕ) → length ps ≡ length qs
    → subsystem_words (ps ++ (p ∷ [])) (qs ++ (q ∷ [])) ≡ (subsystem_words ps qs ++ word p) ++ word q
unfolding subsystem_words word
subsystem_words_append [] [] p q e = refl
subsystem_words_append [] (b ∷ qs) p q e = absurd (omega arith)
subsystem_words_append (a ∷ ps) [] p q e = absurd (omega arith)
subsystem_words_append (a ∷ ps) (b ∷ qs) p q e =
    ap (λ (r : List ℕ). word a ++ (word b ++ r)) (subsystem_words_append ps qs p q (omega arith))

-- a word is written as the two bytes that it was read from
pub word_again : (b : List ℕ) (k : ℕ) → get_or b k 0 < 256 → word (word_at b k) ≡ get_or b k 0 ∷ get_or b (k + 1) 0 ∷ []
unfolding word word_at byte_at
word_again b k small =
    let x = get_or b k 0 in
    let y = get_or b (k + 1) 0 in
    let low : (x + 256 * y) % 256 ≡ x = omega arith in
    let high : (x + 256 * y) / 256 ≡ y = omega arith in
    ap₂ (λ (l m : ℕ). l ∷ m ∷ []) low high

-- what is read from a list of bytes is that part of the list

module _ (b : List ℕ) (at : ℕ) where
  pub bytes_part : (n : ℕ) → at + n ≤ length b → listed n (λ t. byte_at b (at + t)) ≡ take n (drop at b)
  unfolding byte_at
  bytes_part n h =
      sym (listed_is n (λ t. get_or b (at + t) 0) 0 (take n (drop at b))
      (simp (length-take, length-drop) (omega arith))
      (λ k u. get_or-take n (drop at b) k 0 u ∙ get_or-drop at b k 0))

  module _ (small : (k : ℕ) → get_or b k 0 < 256) where
    -- one word more
    word_part : (j : ℕ) → at + j + 2 ≤ length b → take j (drop at b) ++ word (word_at b (at + j)) ≡ take (j + 2) (drop at b)
    word_part j h =
        let d = drop at b in
        let e = length-drop at b in
        let next : at + j + 1 ≡ at + suc j = omega arith in
        let two : suc (suc j) ≡ j + 2 = omega arith in
        ap (λ (l : List ℕ). take j d ++ l) (word_again b (at + j) (small (at + j)))
        ∙ ap₂ (λ (l m : ℕ). take j d ++ (l ∷ m ∷ []))
        (sym (get_or-drop at b j 0))
        (ap (λ (k : ℕ). get_or b k 0) next ∙ sym (get_or-drop at b (suc j) 0))
        ∙ sym (append_assoc (take j d) (get_or d j 0 ∷ []) (get_or d (suc j) 0 ∷ []))
        ∙ ap (λ (l : List ℕ). l ++ (get_or d (suc j) 0 ∷ [])) (sym (take-suc d j 0 (omega arith)))
        ∙ sym (take-suc d (suc j) 0 (omega arith))
        ∙ ap (λ (k : ℕ). take k d) two

    pub words_part : (n : ℕ) → at + 2 * n ≤ length b → words (listed n (λ i. word_at b (at + 2 * i))) ≡ take (2 * n) (drop at b)
    unfolding words word listed listed_onto
    words_part zero h = refl
    words_part (suc n) h =
        let f : ℕ → ℕ = λ i. word_at b (at + 2 * i) in
        let two : 2 * n + 2 ≡ 2 * suc n = omega arith in
        ap words (listed_suc n f)
        ∙ words_append (listed n f) (f n ∷ [])
        ∙ ap (λ (l : List ℕ). l ++ word (f n)) (words_part n (omega arith))
        ∙ word_part (2 * n) (omega arith)
        ∙ ap (λ (k : ℕ). take k (drop at b)) two

    pub subsystems_part : (n : ℕ) → at + 4 * n ≤ length b
        → subsystem_words (listed n (λ s. word_at b (at + 4 * s))) (listed n (λ s. word_at b (at + 4 * s + 2))) ≡ take (4 * n) (drop at b)
    unfolding subsystem_words listed listed_onto
    subsystems_part zero h = refl
    subsystems_part (suc n) h =
        let f : ℕ → ℕ = λ s. word_at b (at + 4 * s) in
        let g : ℕ → ℕ = λ s. word_at b (at + 4 * s + 2) in
        let four : 4 * n + 2 + 2 ≡ 4 * suc n = omega arith in
        ap₂ subsystem_words (listed_suc n f) (listed_suc n g)
        ∙ subsystem_words_append (listed n f) (listed n g) (f n) (g n) (length_listed n f ∙ sym (length_listed n g))
        ∙ ap (λ (l : List ℕ). (l ++ word (f n)) ++ word (g n)) (subsystems_part n (omega arith))
        ∙ ap₂ (λ (l : List ℕ) (k : ℕ). l ++ word (word_at b k)) (word_part (4 * n) (omega arith)) (add_assoc at (4 * n) 2)
        ∙ word_part (4 * n + 2) (omega arith)
        ∙ ap (λ (k : ℕ). take k (drop at b)) four

-- the part from m on begins with its first n
pub rejoined : (b : List ℕ) (m n : ℕ) → take n (drop m b) ++ drop (m + n) b ≡ drop m b
rejoined b m n = ap (λ (l : List ℕ). take n (drop m b) ++ l) (sym (drop-drop n m b)) ∙ take-append-drop n (drop m b)

-- a list of at least four begins with its first four
pub four : (b : List ℕ) → 4 ≤ length b → get_or b 0 0 ∷ get_or b 1 0 ∷ get_or b 2 0 ∷ get_or b 3 0 ∷ drop 4 b ≡ b
four [] h = absurd (omega arith)
four (a ∷ []) h = absurd (omega arith)
four (a ∷ b ∷ []) h = absurd (omega arith)
four (a ∷ b ∷ c ∷ []) h = absurd (omega arith)
four (a ∷ b ∷ c ∷ d ∷ l) h = refl
