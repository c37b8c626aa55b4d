-- A buffer that is filled from its first byte on: what stands in it after each part that is put behind the parts before.
use Rattle.std.proofs.Common.{◌≡◌, ℕ, ◌+◌, ◌<◌, ◌≤◌, List, [], ◌∷◌, ◌++◌, length, get_or, take, length-take, append-nil, refl, sym, ap, ap₂, ◌∙◌, append_assoc, add-one, arith, take_all, take-suc}
use lib.Seq.{paste, take-paste}
use Rattle.below.specs.Listed.{listed, listed_onto}
use Rattle.plan.specs.declared.Plan.{Plan}
use Rattle.image.specs.Words.{word, words}
use Rattle.image.specs.Block.{subsystem_words, block_of}
use Rattle.image.specs.Image.{joined}
use Rattle.image.proofs.Parts.{words_append, subsystem_words_append}
use Rattle.image.proofs.Rows.{joined_suc}

-- the first n bytes of a buffer are w
pub record Begun (d : List ℕ) (n : ℕ) (w : List ℕ) : Type 0 where
  pub begins : take n d ≡ w

pub begun_none : (d : List ℕ) → Begun d 0 []
begun_none d = record { begins = refl }

-- bytes are put behind them
pub begun_put : {d e : List ℕ} {n : ℕ} {w : List ℕ} → Begun d n w → (r : List ℕ) (m : ℕ) → e ≡ paste d n r (length r) → n + length r ≤ length d → m ≡ n + length r
    → Begun e m (w ++ r)
begun_put {d} {e} {n} {w} b r m f h q =
    record {
      begins =
          ap₂ take q f
          ∙ take-paste d n r (length r) (omega arith) (omega arith)
          ∙ ap₂ ◌++◌ b.begins (take_all (length r) r (omega arith));
    }

-- and when the buffer is full it is these bytes
pub begun_whole : {d : List ℕ} {n : ℕ} {w : List ℕ} → Begun d n w → length d ≤ n → d ≡ w
begun_whole {d} {n} b h = sym (take_all n d h) ∙ b.begins

-- the counts of a plan's block, and all that stands before its lengths
unfoldable pub block_head : Plan → List ℕ
block_head p = p.subsystems ∷ p.tasks ∷ p.resources ∷ 0 ∷ []

unfoldable pub block_front : Plan → List ℕ
block_front p = ((block_head p ++ subsystem_words p.periods p.budgets) ++ p.owners) ++ p.kinds

pub front_whole : (p : Plan) → block_front p ++ words p.lengths ≡ block_of p
unfolding block_front block_head block_of
front_whole p = simp append_assoc

module _ (head : List ℕ) {d : List ℕ} {n : ℕ} where
  -- before the first row

  pub rows_none : (f : ℕ → List ℕ) → Begun d n head → Begun d n (head ++ joined (listed 0 f))
  unfolding joined listed listed_onto
  rows_none f b = record { begins = b.begins ∙ sym (append-nil head) }

  pub words_none : (l : List ℕ) → Begun d n head → Begun d n (head ++ words (take 0 l))
  unfolding words
  words_none l b = record { begins = b.begins ∙ sym (append-nil head) }

  pub subsystems_none : (ps qs : List ℕ) → Begun d n head → Begun d n (head ++ subsystem_words (take 0 ps) (take 0 qs))
  unfolding subsystem_words
  subsystems_none ps qs b = record { begins = b.begins ∙ sym (append-nil head) }

  -- and behind the last

  pub rows_whole : (f : ℕ → List ℕ) (k j m : ℕ) → Begun d n (head ++ joined (listed k f)) → k ≡ j → n ≡ m → Begun d m (head ++ joined (listed j f))
  rows_whole f k j m b e q = record { begins = ap (λ (x : ℕ). take x d) (sym q) ∙ b.begins ∙ ap (λ (x : ℕ). head ++ joined (listed x f)) e }

  pub words_whole : (l : List ℕ) (i m : ℕ) → Begun d n (head ++ words (take i l)) → length l ≤ i → n ≡ m → Begun d m (head ++ words l)
  words_whole l i m b h q = record { begins = ap (λ (x : ℕ). take x d) (sym q) ∙ b.begins ∙ ap (λ (x : List ℕ). head ++ words x) (take_all i l h) }

  pub subsystems_whole : (ps qs : List ℕ) (s m : ℕ) → Begun d n (head ++ subsystem_words (take s ps) (take s qs)) → length ps ≤ s → length qs ≤ s → n ≡ m
      → Begun d m (head ++ subsystem_words ps qs)
  subsystems_whole ps qs s m b h k q =
      record { begins = ap (λ (x : ℕ). take x d) (sym q) ∙ b.begins ∙ ap₂ (λ (x y : List ℕ). head ++ subsystem_words x y) (take_all s ps h) (take_all s qs k) }

module _ (head : List ℕ) where
  -- row k of rows of eight bytes
  pub row_put : (f : ℕ → List ℕ) (k : ℕ) {d e : List ℕ} {n : ℕ} (r : List ℕ) (m : ℕ) → Begun d n (head ++ joined (listed k f)) → r ≡ f k → length r ≡ 8
      → e ≡ paste d n r (length r) → n + 8 ≤ length d → m ≡ n + 8 → Begun e m (head ++ joined (listed (k + 1) f))
  row_put f k r m b is eight put room q =
      let next = begun_put b r m put (omega arith) (omega arith) in
      record { begins = next.begins ∙ append_assoc head (joined (listed k f)) r ∙ ap (λ (l : List ℕ). head ++ l) (ap (λ (l : List ℕ). joined (listed k f) ++ l) is ∙ sym (joined_suc k f) ∙ ap (λ (j : ℕ). joined (listed j f)) (sym (add-one k))) }

  -- number i of a list of numbers
  pub word_put : (l : List ℕ) (i : ℕ) {d e : List ℕ} {n : ℕ} (r : List ℕ) (m : ℕ) → Begun d n (head ++ words (take i l)) → i < length l → r ≡ word (get_or l i 0)
      → e ≡ paste d n r (length r) → n + 2 ≤ length d → m ≡ n + 2 → Begun e m (head ++ words (take (i + 1) l))
  unfolding words word
  word_put l i r m b h is put room q =
      let two : length r ≡ 2 = ap length is ∙ long (get_or l i 0) in
      let next = begun_put b r m put (omega arith) (omega arith) in
      let grown : words (take i l) ++ word (get_or l i 0) ≡ words (take (i + 1) l)
      = sym (words_append (take i l) (get_or l i 0 ∷ [])) ∙ ap words (sym (take-suc l i 0 h) ∙ ap (λ (k : ℕ). take k l) (sym (add-one i))) in
      record { begins = next.begins ∙ append_assoc head (words (take i l)) r ∙ ap (λ (x : List ℕ). head ++ x) (ap (λ (x : List ℕ). words (take i l) ++ x) is ∙ grown) }
    where
      long : (w : ℕ) → length (word w) ≡ 2
      long w = unfold word in refl

  -- period and budget of row s, in turn
  pub subsystem_put : (ps qs : List ℕ) (s : ℕ) {d e g : List ℕ} {n : ℕ} (r t : List ℕ) (k m : ℕ) → Begun d n (head ++ subsystem_words (take s ps) (take s qs))
      → length ps ≡ length qs → s < length ps → r ≡ word (get_or ps s 0) → t ≡ word (get_or qs s 0)
      → e ≡ paste d n r (length r) → length e ≡ length d → g ≡ paste e k t (length t) → n + 4 ≤ length d → k ≡ n + 2 → m ≡ n + 4
      → Begun g m (head ++ subsystem_words (take (s + 1) ps) (take (s + 1) qs))
  subsystem_put ps qs s r t k m b same h ir it pr keeps pt room qk qm =
      let two : length r ≡ 2 = ap length ir ∙ long (get_or ps s 0) in
      let too : length t ≡ 2 = ap length it ∙ long (get_or qs s 0) in
      let first = begun_put b r k pr (omega arith) (omega arith) in
      let next = begun_put first t m pt (omega arith) (omega arith) in
      let rows = subsystem_words (take s ps) (take s qs) in
      record {
        begins =
            next.begins
            ∙ append_assoc (head ++ rows) r t
            ∙ append_assoc head rows (r ++ t)
            ∙ ap (λ (x : List ℕ). head ++ x) (sym (append_assoc rows r t) ∙ ap₂ (λ (x y : List ℕ). (rows ++ x) ++ y) ir it ∙ grown);
      }
    where
      long : (w : ℕ) → length (word w) ≡ 2
      long w = unfold word in refl

      grown : (subsystem_words (take s ps) (take s qs) ++ word (get_or ps s 0)) ++ word (get_or qs s 0) ≡ subsystem_words (take (s + 1) ps) (take (s + 1) qs)
      grown =
          sym (subsystem_words_append (take s ps) (take s qs) (get_or ps s 0) (get_or qs s 0) (simp length-take (omega arith)))
          ∙ ap₂ subsystem_words (sym (take-suc ps s 0 h)) (sym (take-suc qs s 0 (omega arith)))
          ∙ ap (λ (k : ℕ). subsystem_words (take k ps) (take k qs)) (sym (add-one s))
