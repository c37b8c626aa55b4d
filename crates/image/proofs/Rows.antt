-- Rows of eight bytes one behind the other: their length, the row and the byte that stand at a place, and a list that is cut into rows.
use Rattle.std.proofs.Common.{◌≡◌, refl, sym, ap, ◌∙◌, ⊎_elim, List, [], ◌∷◌, ◌++◌, append_assoc, append-nil, ℕ, zero, suc, ◌+◌, ◌*◌, ◌<◌, arith, length, get_or, take, drop, length-append, length-drop, take_all, drop_at, drop-drop, take-add, get_or-drop, get_or-take}
use lib.Seq.{take-append-le, drop-append-le}
use Rattle.below.specs.Listed.{listed, listed_onto}
use Rattle.below.proofs.Listed.{listed_suc}
use Rattle.below.proofs.Search.{last_or_before}
use Rattle.image.specs.Image.{joined}

-- one row more, at the end

joined_append : (ls ms : List (List ℕ)) → joined (ls ++ ms) ≡ joined ls ++ joined ms
unfolding joined
joined_append [] ms = refl
joined_append (l ∷ ls) ms = ap (λ (r : List ℕ). l ++ r) (joined_append ls ms) ∙ sym (append_assoc l (joined ls) (joined ms))

joined_one : (l : List ℕ) → joined (l ∷ []) ≡ l
unfolding joined
joined_one l = append-nil l

pub joined_suc : (n : ℕ) (f : ℕ → List ℕ) → joined (listed (suc n) f) ≡ joined (listed n f) ++ f n
joined_suc n f =
    ap joined (listed_suc n f)
    ∙ joined_append (listed n f) (f n ∷ [])
    ∙ ap (λ (r : List ℕ). joined (listed n f) ++ r) (joined_one (f n))

module _ (f : ℕ → List ℕ) (eight : (k : ℕ) → length (f k) ≡ 8) where
  pub length_rows : (n : ℕ) → length (joined (listed n f)) ≡ 8 * n
  unfolding joined listed listed_onto
  length_rows zero = refl
  length_rows (suc n) = rw joined_suc (length-append (joined (listed n f)) (f n) ∙ omega (arith, length_rows n, eight n))

  row_step : (n k : ℕ) → k < suc n → (k < n → take 8 (drop (8 * k) (joined (listed n f))) ≡ f k) → take 8 (drop (8 * k) (joined (listed n f) ++ f n)) ≡ f k
  row_step n k h f-before = ⊎_elim last before (last_or_before h)
    where
      l : List ℕ
      l = joined (listed n f)

      last : k ≡ n → take 8 (drop (8 * k) (l ++ f n)) ≡ f k
      last e = rw (e, drop_at l (f n) (8 * n) (length_rows n)) (take_all 8 (f n) (omega (arith, eight n)))

      before : k < n → take 8 (drop (8 * k) (l ++ f n)) ≡ f k
      before u =
          let long = length_rows n in
          ap (take 8) (drop-append-le (8 * k) l (f n) (omega arith))
          ∙ take-append-le 8 (drop (8 * k) l) (f n) (omega (arith, length-drop (8 * k) l))
          ∙ f-before u

  -- row k stands at 8 * k
  pub row_at : (n k : ℕ) → k < n → take 8 (drop (8 * k) (joined (listed n f))) ≡ f k
  row_at zero k h = absurd (omega arith)
  row_at (suc n) k h = rw joined_suc (row_step n k h (row_at n k))

  -- and its byte i at 8 * k + i
  pub row_byte : (n k i : ℕ) → k < n → i < 8 → get_or (joined (listed n f)) (8 * k + i) 0 ≡ get_or (f k) i 0
  row_byte n k i h l =
      sym (get_or-drop (8 * k) (joined (listed n f)) i 0)
      ∙ sym (get_or-take 8 (drop (8 * k) (joined (listed n f))) i 0 l)
      ∙ ap (λ (r : List ℕ). get_or r i 0) (row_at n k h)

-- the rows of a list, joined, are that part of it
pub rows_part : (b : List ℕ) (at n : ℕ) → joined (listed n (λ k. take 8 (drop (at + 8 * k) b))) ≡ take (8 * n) (drop at b)
unfolding joined listed listed_onto
rows_part b at zero = refl
rows_part b at (suc n) =
    let next : 8 * n + 8 ≡ 8 * suc n = omega arith in
    joined_suc n (λ k. take 8 (drop (at + 8 * k) b))
    ∙ ap (λ (r : List ℕ). r ++ take 8 (drop (at + 8 * n) b)) (rows_part b at n)
    ∙ ap (λ (r : List ℕ). take (8 * n) (drop at b) ++ take 8 r) (sym (drop-drop (8 * n) at b))
    ∙ sym (take-add (8 * n) 8 (drop at b))
    ∙ ap (λ (k : ℕ). take k (drop at b)) next
