-- Laws of the letter of a line and of the letter of a resource.
use Rattle.std.proofs.Common.{◌≡◌, refl, ap, Bool, true, false, List, [], ◌∷◌, ℕ, zero, suc, ◌-◌, ◌≤◌, ◌<◌, arith, eqb, length, get_or, take, drop, length-take-le, ne_eqb, Option, Some, None}
use mathlib.Core.Bool.{and-false}
use Rattle.text.specs.Bytes.{bytes, same}
use Rattle.text.specs.Lines.{until, onto, fields, tab}
use Rattle.text.specs.Numbers.{numbers, of_one, of_two, of_three}
use Rattle.text.proofs.Parted.{parted_at, parted_before}
use Rattle.text.proofs.Lines.{fields_tab, fields_whole}
use Rattle.reader.specs.declared.Line.{Line}
use Rattle.reader.specs.declared.Line.TheVariants.{Resource}
use Rattle.reader.specs.Line.{as_subsystem, as_task, as_uses, of_numbers, of_kind, of_kind_field, of_fields}
use Rattle.reader.proofs.Fields.{tab_or_none, to_the_end}

-- only a text of one byte is a letter
same_one : (c : ℕ) (k : List ℕ) → (length k ≡ 1 → ⊥) → same k (c ∷ []) ≡ false
unfolding same
same_one c [] h = refl
same_one c (a ∷ []) h = absurd (h refl)
same_one c (a ∷ b ∷ l) h = and-false (eqb a c)

same_other : (c : ℕ) (k : List ℕ) → (get_or k 0 0 ≡ c → ⊥) → same k (c ∷ []) ≡ false
unfolding same
same_other c [] h = refl
same_other c (a ∷ l) h = rw (ne_eqb a c h)

-- R

of_kind_not : (k : List ℕ) → same k (bytes "L") ≡ false → same k (bytes "G") ≡ false → of_kind k ≡ None
unfolding of_kind
of_kind_not k l g = rw (of_kind, l, g)

of_kind_field_more : (k s : List ℕ) → of_kind_field (k ∷ fields s) ≡ None
unfolding of_kind_field
of_kind_field_more k s = tab_or_none s (λ p. rw (fields_tab p)) (λ w. rw (fields_whole w))

pub kind_long : (s : List ℕ) → (length s ≡ 1 → ⊥) → of_kind_field (fields s) ≡ None
unfolding of_kind_field bytes
kind_long s h =
    tab_or_none s
    (λ p. rw (fields_tab p) (of_kind_field_more _ _))
    (λ w. rw (fields_whole w) (of_kind_not s (same_one 76 s h) (same_one 71 s h)))

pub kind_other : (s : List ℕ) → (get_or s 0 0 ≡ 76 → ⊥) → (get_or s 0 0 ≡ 71 → ⊥) → of_kind_field (fields s) ≡ None
unfolding of_kind_field bytes
kind_other s l g =
    tab_or_none s
    (λ p. rw (fields_tab p) (of_kind_field_more _ _))
    (λ w. rw (fields_whole w) (of_kind_not s (same_other 76 s l) (same_other 71 s g)))

one_byte : (s : List ℕ) (a : ℕ) → length s ≡ 1 → get_or s 0 0 ≡ a → s ≡ a ∷ []
one_byte [] a h e = absurd (omega arith)
one_byte (b ∷ []) a h e = rw e
one_byte (b ∷ c ∷ l) a h e = absurd (omega arith)

module _ (s : List ℕ) (h : length s ≡ 1) where
  pub kind_local : get_or s 0 0 ≡ 76 → of_kind_field (fields s) ≡ Some (Resource 0)
  unfolding of_kind_field of_kind fields onto same bytes
  kind_local e = ap (λ (x : List ℕ). of_kind_field (fields x)) (one_byte s 76 h e)

  pub kind_global : get_or s 0 0 ≡ 71 → of_kind_field (fields s) ≡ Some (Resource 1)
  unfolding of_kind_field of_kind fields onto same bytes
  kind_global e = ap (λ (x : List ℕ). of_kind_field (fields x)) (one_byte s 71 h e)

-- a line

of_fields_not : (k : List ℕ) (fs : List (List ℕ))
    → same k (bytes "S") ≡ false → same k (bytes "T") ≡ false → same k (bytes "R") ≡ false → same k (bytes "U") ≡ false
    → of_fields (k ∷ fs) ≡ None
unfolding of_fields
of_fields_not k fs s t r u = rw (of_fields, s, t, r, u)

-- a first field of another length than one
letter_long : (k : List ℕ) (fs : List (List ℕ)) → (length k ≡ 1 → ⊥) → of_fields (k ∷ fs) ≡ None
unfolding bytes
letter_long k fs h = of_fields_not k fs (same_one 83 k h) (same_one 84 k h) (same_one 82 k h) (same_one 85 k h)

-- no field behind the letter
letter_alone : (k : List ℕ) → of_fields (k ∷ []) ≡ None
unfolding of_fields of_numbers numbers of_one of_two of_three of_kind_field
letter_alone k = go (same k (bytes "S")) (same k (bytes "T")) (same k (bytes "R")) (same k (bytes "U"))
  where
    go : (s t r u : Bool) → ◌≡◌ {A = Option Line}
        (elim s [ true ↦ None | false ↦ elim t [ true ↦ None | false ↦ elim r [ true ↦ None | false ↦ elim u [ true ↦ None | false ↦ None ] ] ] ])
        None
    go true t r u = refl
    go false true r u = refl
    go false false true u = refl
    go false false false true = refl
    go false false false false = refl

pub line_short : (s : List ℕ) → length s < 2 → of_fields (fields s) ≡ None
line_short s h =
    tab_or_none s
    (λ p. rw (fields_tab p)
    (letter_long _ _ (λ e. absurd (omega (arith, parted_before p, length-take-le (until tab s) s (omega (arith, parted_before p)))))))
    (λ w. rw (fields_whole w) (letter_alone s))

pub line_long : (s : List ℕ) → 2 ≤ length s → (get_or s 1 0 ≡ tab → ⊥) → of_fields (fields s) ≡ None
line_long s h n =
    tab_or_none s
    (λ p. rw (fields_tab p) (letter_long _ _ (λ e.
    let q : until tab s ≡ 1 = omega (arith, length-take-le (until tab s) s (omega (arith, parted_before p))) in
    n (rw q at (parted_at p)))))
    (λ w. rw (fields_whole w) (letter_alone s))

lettered : (s : List ℕ) (a : ℕ) → 2 ≤ length s → get_or s 1 0 ≡ tab → get_or s 0 0 ≡ a → s ≡ a ∷ tab ∷ drop 2 s
lettered [] a h t e = absurd (omega arith)
lettered (b ∷ []) a h t e = absurd (omega arith)
lettered (b ∷ c ∷ l) a h t e = rw (e, t)

-- a letter, a tab and the fields behind it
module _ (s : List ℕ) (h : 2 ≤ length s) (t : get_or s 1 0 ≡ tab) where
  abbrev rest : List ℕ
  rest = take (length s - 2) (drop 2 s)

  line_by : (a : ℕ) → get_or s 0 0 ≡ a → of_fields (fields s) ≡ of_fields (fields (a ∷ tab ∷ rest))
  line_by a e = ap (λ (x : List ℕ). of_fields (fields x)) (rw (to_the_end 2 s) (lettered s a h t e))

  pub line_S : get_or s 0 0 ≡ 83 → of_fields (fields s) ≡ of_numbers (of_two None as_subsystem) (fields rest)
  unfolding of_fields fields onto same bytes
  line_S e = line_by 83 e

  pub line_T : get_or s 0 0 ≡ 84 → of_fields (fields s) ≡ of_numbers (of_one None as_task) (fields rest)
  unfolding of_fields fields onto same bytes
  line_T e = line_by 84 e

  pub line_R : get_or s 0 0 ≡ 82 → of_fields (fields s) ≡ of_kind_field (fields rest)
  unfolding of_fields fields onto same bytes
  line_R e = line_by 82 e

  pub line_U : get_or s 0 0 ≡ 85 → of_fields (fields s) ≡ of_numbers (of_three None as_uses) (fields rest)
  unfolding of_fields fields onto same bytes
  line_U e = line_by 85 e

-- the first byte of a first field is the first byte, or there is none
head_not : (c m : ℕ) (s : List ℕ) → 0 < c → (get_or s 0 0 ≡ c → ⊥) → get_or (take m s) 0 0 ≡ c → ⊥
head_not c zero s h n e = omega arith
head_not c (suc m) [] h n e = omega arith
head_not c (suc m) (x ∷ xs) h n e = n e

module _ (s : List ℕ) (S : get_or s 0 0 ≡ 83 → ⊥) (T : get_or s 0 0 ≡ 84 → ⊥) (R : get_or s 0 0 ≡ 82 → ⊥) (U : get_or s 0 0 ≡ 85 → ⊥) where
  letter_other : (m : ℕ) (fs : List (List ℕ)) → of_fields (take m s ∷ fs) ≡ None
  unfolding bytes
  letter_other m fs =
      of_fields_not (take m s) fs
      (same_other 83 _ (head_not 83 m s (omega arith) S))
      (same_other 84 _ (head_not 84 m s (omega arith) T))
      (same_other 82 _ (head_not 82 m s (omega arith) R))
      (same_other 85 _ (head_not 85 m s (omega arith) U))

  pub line_other : of_fields (fields s) ≡ None
  line_other =
      tab_or_none s
      (λ p. rw (fields_tab p) (letter_other (until tab s) (fields (drop (suc (until tab s)) s))))
      (λ w. rw (fields_whole w) (letter_alone s))
