-- Laws of the rows behind a name: the last row is the rest of the line, whatever tabs it has.
use Rattle.std.proofs.Common.{◌≡◌, ℕ, suc, List, [], ◌∷◌, Bool, true, false, length, take, drop, refl, ◌∙◌}
use Rattle.std.specs.Prelude.{Option, Some, None, ltb, eqb}
use Rattle.std.specs.Option.{option_map, option_and_then}
use borrow.Author.Tests.{ltb-true, ltb-false}
use Rattle.text.specs.Lines.{tab, until, onto, fields}
use Rattle.text.specs.Numbers.{number, numbers, of_none, of_one, of_two}
use Rattle.text.proofs.Parted.{Parted, Whole, parted, whole}
use Rattle.text.proofs.Lines.{fields_tab, fields_whole}
use Rattle.text.proofs.Numbers.{number_tab}
use Rattle.line.specs.declared.Event.{Event}

-- with one number more in front, one number fewer is wanted
shift_two : (g : ℕ → ℕ → Option Event) (n : ℕ) (o : Option (List ℕ))
    → option_and_then (of_two None g) (option_map (λ ns. n ∷ ns) o) ≡ option_and_then (of_one None (g n)) o
unfolding of_two of_one
shift_two g n None = refl
shift_two g n (Some []) = refl
shift_two g n (Some (m ∷ [])) = refl
shift_two g n (Some (m ∷ k ∷ ns)) = refl

shift_one : (f : ℕ → Option Event) (n : ℕ) (o : Option (List ℕ))
    → option_and_then (of_one None f) (option_map (λ ns. n ∷ ns) o) ≡ option_and_then (of_none None (f n)) o
unfolding of_one of_none
shift_one f n None = refl
shift_one f n (Some []) = refl
shift_one f n (Some (m ∷ ns)) = refl

-- a first field that is a number, or none
module _ (a : List ℕ) (fs : List (List ℕ)) where
  pub numbers_not : number a ≡ None → numbers (a ∷ fs) ≡ None
  unfolding numbers
  numbers_not e = rw (numbers, e)

  pub numbers_is : (n : ℕ) → number a ≡ Some n → numbers (a ∷ fs) ≡ option_map (λ ns. n ∷ ns) (numbers fs)
  unfolding numbers
  numbers_is n e = rw (numbers, e)

-- there is always a field, so that there is always a number too many for a tick
some_field : (e : Option Event) (a : List ℕ) (fs : List (List ℕ)) → option_and_then (of_none None e) (numbers (a ∷ fs)) ≡ None
unfolding of_none
some_field e a fs = go (number a) refl
  where
    more : (n : ℕ) (o : Option (List ℕ)) → option_and_then (of_none None e) (option_map (λ ns. n ∷ ns) o) ≡ None
    more n None = refl
    more n (Some ns) = refl

    go : (x : Option ℕ) → number a ≡ x → option_and_then (of_none None e) (numbers (a ∷ fs)) ≡ None
    go None t = rw (numbers_not a fs t)
    go (Some n) t = rw (numbers_is a fs n t) (more n (numbers fs))

pub tick_rest : (e : Option Event) (t : List ℕ) → option_and_then (of_none None e) (numbers (fields t)) ≡ None
unfolding fields onto
tick_rest e [] = some_field e [] []
tick_rest e (b ∷ bs) = go (eqb b tab) (fields bs)
  where
    go : (x : Bool) (ls : List (List ℕ)) → option_and_then (of_none None e) (numbers (elim x [ true ↦ [] ∷ ls | false ↦ onto b ls ])) ≡ None
    go true ls = some_field e [] ls
    go false [] = some_field e (b ∷ []) []
    go false (l ∷ ls) = some_field e (b ∷ l) ls

-- the last row is the rest
module _ (f : ℕ → Option Event) where
  -- a first field that is no number, or one
  first_not : (a : List ℕ) (fs : List (List ℕ)) → number a ≡ None → option_and_then (of_one None f) (numbers (a ∷ fs)) ≡ None
  first_not a fs e = rw (numbers_not a fs e)

  first_is : (a : List ℕ) (fs : List (List ℕ)) (n : ℕ) → number a ≡ Some n
      → option_and_then (of_one None f) (numbers (a ∷ fs)) ≡ option_and_then (of_none None (f n)) (numbers fs)
  first_is a fs n e = rw (numbers_is a fs n e) (shift_one f n (numbers fs))

  last_whole : {t : List ℕ} → Whole tab t → option_and_then (of_one None f) (numbers (fields t)) ≡ option_and_then f (number t)
  unfolding numbers of_none
  last_whole {t} w = rw (fields_whole w) (go (number t) refl)
    where
      go : (x : Option ℕ) → number t ≡ x → option_and_then (of_one None f) (numbers (t ∷ [])) ≡ option_and_then f x
      go None e = first_not t [] e
      go (Some n) e = first_is t [] n e

  last_parted : {t : List ℕ} {m : ℕ} → Parted tab t m → option_and_then (of_one None f) (numbers (fields t)) ≡ option_and_then f (number t)
  last_parted {t} {m} p = rw (fields_tab p, number_tab p) (go (number (take m t)) refl)
    where
      go : (x : Option ℕ) → number (take m t) ≡ x → option_and_then (of_one None f) (numbers (take m t ∷ fields (drop (suc m) t))) ≡ None
      go None e = first_not (take m t) _ e
      go (Some n) e = first_is (take m t) _ n e ∙ tick_rest (f n) (drop (suc m) t)

  pub last_row : (t : List ℕ) → option_and_then (of_one None f) (numbers (fields t)) ≡ option_and_then f (number t)
  last_row t = go (ltb (until tab t) (length t)) refl
    where
      go : (b : Bool) → ltb (until tab t) (length t) ≡ b → option_and_then (of_one None f) (numbers (fields t)) ≡ option_and_then f (number t)
      go true e = last_parted (parted tab t (ltb-true _ _ e))
      go false e = last_whole (whole tab t (ltb-false _ _ e))

-- two rows: a tab parts them
module _ (g : ℕ → ℕ → Option Event) {t : List ℕ} where
  pub two_whole : Whole tab t → option_and_then (of_two None g) (numbers (fields t)) ≡ None
  unfolding numbers of_one
  two_whole w = rw (fields_whole w) (go (number t) refl)
    where
      go : (x : Option ℕ) → number t ≡ x → option_and_then (of_two None g) (numbers (t ∷ [])) ≡ None
      go None e = rw (numbers_not t [] e)
      go (Some n) e = rw (numbers_is t [] n e) (shift_two g n (numbers []))

  pub two_not : {m : ℕ} → Parted tab t m → number (take m t) ≡ None → option_and_then (of_two None g) (numbers (fields t)) ≡ None
  two_not p e = rw (fields_tab p, numbers_not _ _ e)

  pub two_is : {m : ℕ} → Parted tab t m → (n : ℕ) → number (take m t) ≡ Some n
      → option_and_then (of_two None g) (numbers (fields t)) ≡ option_and_then (g n) (number (drop (suc m) t))
  two_is {m} p n e = rw (fields_tab p, numbers_is _ _ n e) (shift_two g n _ ∙ last_row (g n) (drop (suc m) t))
