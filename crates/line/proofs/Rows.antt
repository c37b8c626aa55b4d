-- Rows of a set written one by one, the last first: what is still to write, in front of the rows that stand.
use Rattle.std.proofs.Common.{◌≡◌, ℕ, suc, ◌+◌, ◌-◌, ◌*◌, ◌/◌, ◌%◌, ◌^◌, ◌≤◌, ◌<◌, Bool, true, false, List, [], ◌∷◌, ◌++◌, length, length-append, append_assoc, append-nil, refl, sym, ap, ◌∙◌, arith}
use borrow.Author.Tests.{eq-eqb, ne_eqb}
use Rattle.text.specs.Bytes.{bytes}
use Rattle.text.specs.Numbers.{decimal}
use Rattle.line.specs.Printed.{is_in, comma_before, rows_onto}
use Rattle.line.specs.Before.{joined}
use Rattle.line.proofs.Decimal.{decimal_some, digits_task}

-- the text that stands in front of s, that the rows below k complete it, and whether a comma comes in front of it
pub record Rows (set k : ℕ) (others : Bool) (s t : List ℕ) : Type 0 where
  pub text : List ℕ
  pub stands : t ≡ text ++ s
  pub rest : rows_onto k set text ≡ rows_onto 32 set []
  pub short : length text + 3 * k ≤ 96
  pub comma : (n : ℕ) → joined n others ++ text ≡ comma_before n text

-- the rows by their last
module _ (n set : ℕ) (bs : List ℕ) where
  onto_in : set / 2 ^ n % 2 ≡ 1 → rows_onto (suc n) set bs ≡ rows_onto n set (comma_before n bs)
  unfolding rows_onto is_in
  onto_in e = rw (rows_onto, is_in, eq-eqb _ _ e)

  onto_out : (set / 2 ^ n % 2 ≡ 1 → ⊥) → rows_onto (suc n) set bs ≡ rows_onto n set bs
  unfolding rows_onto is_in
  onto_out d = rw (rows_onto, is_in, ne_eqb _ _ d)

-- a comma comes between a row and rows behind it
comma_none : (n : ℕ) → joined n false ++ [] ≡ comma_before n []
unfolding joined comma_before
comma_none n = append-nil (decimal n)

comma_more : (t : List ℕ) → 1 ≤ length t → (n : ℕ) → joined n true ++ t ≡ comma_before n t
unfolding joined comma_before bytes
comma_more [] h n = absurd (omega arith)
comma_more (b ∷ bs) h n = append_assoc (decimal n) _ _

joined_some : (n : ℕ) (b : Bool) → 1 ≤ length (joined n b)
unfolding joined
joined_some n true = rw length-append (omega (arith, decimal_some n))
joined_some n false = decimal_some n

joined_short : (n : ℕ) (b : Bool) → n < 32 → length (joined n b) ≤ 3
unfolding joined bytes
joined_short n true h = rw length-append (omega (arith, digits_task n h))
joined_short n false h = omega (arith, digits_task n h)

-- none stands yet, and all are to come
pub rows_first : (set k : ℕ) (s : List ℕ) → k ≡ 32 → Rows set k false s s
rows_first set k s e = rw e (record { text = []; stands = refl; rest = refl; short = omega arith; comma = comma_none })

module _ {set k : ℕ} {others : Bool} {s t : List ℕ} (w : Rows set k others s t) where
  -- there is room for a row and a comma
  pub row_room : 1 ≤ k → 96 + length s ≤ 128 → 3 + length t ≤ 128
  row_room h l = omega (arith, w.short, simp length-append at (ap length w.stands))

  -- all are written
  pub rows_last : k ≡ 0 → t ≡ rows_onto 32 set [] ++ s
  unfolding rows_onto
  rows_last e = w.stands ∙ ap (λ z. z ++ s) (rw e at w.rest)

module _ {set k : ℕ} {others : Bool} {s t : List ℕ} (w : Rows set k others s t) (some : 1 ≤ k) where
  later : rows_onto (suc (k - 1)) set w.text ≡ rows_onto 32 set []
  later =
      let e : k ≡ suc (k - 1) = omega arith in
      rw e at w.rest

  -- the last of them is in the set and was written
  pub row_in : {u : List ℕ} → k ≤ 32 → set / 2 ^ (k - 1) % 2 ≡ 1 → u ≡ joined (k - 1) others ++ t → Rows set (k - 1) true s u
  row_in h e b =
      let l : length (joined (k - 1) others ++ w.text) ≡ length (joined (k - 1) others) + length w.text = length-append _ _ in
      record {
        text = joined (k - 1) others ++ w.text;
        stands = b ∙ rw (w.stands, append_assoc);
        rest = rw (w.comma (k - 1)) (sym (onto_in (k - 1) set w.text e) ∙ later);
        short = omega (arith, l, w.short, joined_short (k - 1) others (omega arith));
        comma = comma_more _ (omega (arith, l, joined_some (k - 1) others));
      }

  -- it is not in the set
  pub row_out : (set / 2 ^ (k - 1) % 2 ≡ 1 → ⊥) → Rows set (k - 1) others s t
  row_out d =
      record { text = w.text; stands = w.stands; rest = sym (onto_out (k - 1) set w.text d) ∙ later; short = omega (arith, w.short); comma = w.comma }
