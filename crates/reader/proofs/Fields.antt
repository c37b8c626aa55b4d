-- Laws of a line made from the numbers of its fields: how the first field is taken, and what the last one says.
use Rattle.std.proofs.Common.{◌≡◌, refl, ◌∙◌, Bool, true, false, List, [], ◌∷◌, option_map, ℕ, ◌+◌, ◌-◌, ◌≤◌, ◌<◌, le_of_eq, add-one, arith, ltb, length, take, drop, length-drop, take_all, ltb-true, ltb-false, Option, Some, None}
use Rattle.text.specs.Lines.{until, fields, tab}
use Rattle.text.specs.Numbers.{number, numbers, of_one, of_two, of_three}
use Rattle.text.proofs.Parted.{Parted, Whole, parted, whole}
use Rattle.text.proofs.Lines.{fields_tab, fields_whole}
use Rattle.text.proofs.Numbers.{number_tab}
use Rattle.reader.specs.declared.Line.{Line}
use Rattle.reader.specs.Line.{of_numbers}

-- a text has a tab or none
pub tab_or_none : {C : Type 0} (s : List ℕ) → (Parted tab s (until tab s) → C) → (Whole tab s → C) → C
tab_or_none {C} s p w = go (ltb (until tab s) (length s)) refl
  where
    go : (b : Bool) → ltb (until tab s) (length s) ≡ b → C
    go true e = p (parted tab s (ltb-true (until tab s) (length s) e))
    go false e = w (whole tab s (ltb-false (until tab s) (length s) e))

-- a field writes a number or none
pub written_or_none : {C : Type 0} (f : List ℕ) → ((n : ℕ) → number f ≡ Some n → C) → (number f ≡ None → C) → C
written_or_none {C} f w z = go (number f) refl
  where
    go : (x : Option ℕ) → number f ≡ x → C
    go (Some n) e = w n e
    go None e = z e

module _ (f : List ℕ) (fs : List (List ℕ)) where
  -- a field that writes no number spoils the line
  pub field_not : (g : List ℕ → Option Line) → number f ≡ None → of_numbers g (f ∷ fs) ≡ None
  unfolding of_numbers numbers
  field_not g e = rw (of_numbers, numbers, e)

  -- one that does leaves the fields behind it
  pub field_next : (g h : List ℕ → Option Line) {n : ℕ} → number f ≡ Some n → ((ns : List ℕ) → g (n ∷ ns) ≡ h ns)
      → of_numbers g (f ∷ fs) ≡ of_numbers h fs
  unfolding of_numbers numbers
  field_next g h {n} e q = rw (of_numbers, numbers, e) (go (numbers fs))
    where
      go : (o : Option (List ℕ))
          → ◌≡◌ {A = Option Line} (elim (option_map (λ ns. n ∷ ns) o) [ None ↦ None | Some ns ↦ g ns ]) (elim o [ None ↦ None | Some ns ↦ h ns ])
      go None = refl
      go (Some ns) = q ns

flat : (fs : List (List ℕ)) → of_numbers (λ ns. None) fs ≡ None
unfolding of_numbers
flat fs = go (numbers fs)
  where
    go : (o : Option (List ℕ)) → ◌≡◌ {A = Option Line} (elim o [ None ↦ None | Some ns ↦ None ]) None
    go None = refl
    go (Some ns) = refl

-- where no number is wanted any more, a field is one too many
module _ (g : List ℕ → Option Line) (q : (n : ℕ) (ns : List ℕ) → g (n ∷ ns) ≡ None) where
  surplus_field : (f : List ℕ) (fs : List (List ℕ)) → of_numbers g (f ∷ fs) ≡ None
  surplus_field f fs =
      written_or_none f (λ n e. field_next f fs g (λ ns. None) e (q n) ∙ flat fs) (field_not f fs g)

  surplus : (s : List ℕ) → of_numbers g (fields s) ≡ None
  surplus s =
      tab_or_none s (λ p. rw (fields_tab p) (surplus_field _ _)) (λ w. rw (fields_whole w) (surplus_field s []))

-- with no tab in it, a text is one field: too few where two or more are wanted
pub too_few : (g : List ℕ → Option Line) → ((n : ℕ) → g (n ∷ []) ≡ None) → {s : List ℕ} → Whole tab s → of_numbers g (fields s) ≡ None
unfolding of_numbers numbers
too_few g q {s} w = rw (fields_whole w) (written_or_none s (λ n e. field_next s [] g (λ ns. g (n ∷ ns)) e (λ ns. refl) ∙ q n) (field_not s [] g))

-- the last field is all that is left: a tab in it makes it no number
module _ (F : ℕ → Option Line) (s : List ℕ) where
  pub last_written : {n : ℕ} → number s ≡ Some n → of_numbers (of_one None F) (fields s) ≡ F n
  unfolding of_one of_numbers numbers
  last_written e = tab_or_none s (λ p. cc (number_tab p)) (λ w. rw (fields_whole w) (field_next s [] (of_one None F) (λ ns. of_one None F (_ ∷ ns)) e (λ ns. refl)))

  pub last_not : number s ≡ None → of_numbers (of_one None F) (fields s) ≡ None
  unfolding of_one
  last_not e =
      tab_or_none s
      (λ p. rw (fields_tab p)
      (written_or_none (take (until tab s) s)
      (λ n d. field_next _ _ (of_one None F) (λ ns. of_one None F (n ∷ ns)) d (λ ns. refl) ∙ surplus _ (λ m ms. refl) _)
      (field_not _ _ (of_one None F))))
      (λ w. rw (fields_whole w) (field_not s [] (of_one None F) e))

-- one number fewer is wanted behind a first one
pub two_one : (F : ℕ → ℕ → Option Line) (n : ℕ) (ns : List ℕ) → of_two None F (n ∷ ns) ≡ of_one None (F n) ns
unfolding of_two of_one
two_one F n [] = refl
two_one F n (m ∷ []) = refl
two_one F n (m ∷ k ∷ ns) = refl

pub three_two : (F : ℕ → ℕ → ℕ → Option Line) (n : ℕ) (ns : List ℕ) → of_three None F (n ∷ ns) ≡ of_two None (F n) ns
unfolding of_three of_two
three_two F n [] = refl
three_two F n (m ∷ []) = refl
three_two F n (m ∷ k ∷ []) = refl
three_two F n (m ∷ k ∷ l ∷ ns) = refl

-- what stands from k on, to the end
pub to_the_end : (k : ℕ) (s : List ℕ) → take (length s - k) (drop k s) ≡ drop k s
to_the_end k s = take_all (length s - k) (drop k s) (le_of_eq (length-drop k s))

-- as the code has it: the first tab was found at m, and rest stands behind it
module _ (s : List ℕ) (m : ℕ) (e : m ≡ 0 + until tab s) where
  pub none_found : length s ≤ m → Whole tab s
  none_found h = whole tab s (omega arith)

  fields_found : m < length s → fields s ≡ take m s ∷ fields (drop (m + 1) s)
  fields_found h =
      let q : until tab s ≡ m = omega arith in
      rw add-one (rw q at (fields_tab (parted tab s (omega arith))))

  module _ (h : m < length s) (g : List ℕ → Option Line) where
    pub first_not : number (take m s) ≡ None → of_numbers g (fields s) ≡ None
    first_not z = rw (fields_found h) (field_not _ _ g z)

    pub first_next : (g' : List ℕ → Option Line) {n : ℕ} {rest : List ℕ} → rest ≡ take (length s - (m + 1)) (drop (m + 1) s) → number (take m s) ≡ Some n
        → ((ns : List ℕ) → g (n ∷ ns) ≡ g' ns) → of_numbers g (fields s) ≡ of_numbers g' (fields rest)
    first_next g' r z q = rw (fields_found h, r, to_the_end (m + 1) s) (field_next _ _ g g' z q)
