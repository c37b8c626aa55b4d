-- Laws of number: how a row of digits is read on, and when a field writes no number.
use Rattle.std.proofs.Common.{◌≡◌, refl, true, false, ◌&&◌, List, ◌∷◌, ℕ, suc, ◌+◌, ◌-◌, ◌*◌, ◌≤◌, ◌<◌, arith, leb, eqb, length, get_or, drop, drop_of_length-le, drop-cons, le-leb, ne_eqb, Some, None}
use mathlib.Core.Bool.{and-false, and-true, or-true}
use borrow.Author.Tests.{lt-leb}
use Rattle.text.specs.Lines.{tab}
use Rattle.text.specs.Numbers.{is_digit, digits, is_number, worth, number}
use Rattle.text.specs.Digits.{behind}
use Rattle.text.proofs.Parted.{Parted}

-- a digit is read; another byte ends it
module _ (b : ℕ) (bs : List ℕ) (n : ℕ) where
  behind_cons : is_digit b ≡ true → behind (b ∷ bs) n ≡ behind bs (10 * n + (b - 48))
  unfolding behind digits worth
  behind_cons e = rw (behind, digits, e)

  behind_not : is_digit b ≡ false → behind (b ∷ bs) n ≡ None
  unfolding behind digits
  behind_not e = rw (behind, digits, e)

-- reading on at a place of a text
module _ (s : List ℕ) (i n : ℕ) where
  pub behind_digit : i < length s → is_digit (get_or s i 0) ≡ true → behind (drop i s) n ≡ behind (drop (suc i) s) (10 * n + (get_or s i 0 - 48))
  behind_digit h e = rw (drop-cons s i 0 h) (behind_cons _ _ n e)

  pub behind_other : i < length s → is_digit (get_or s i 0) ≡ false → behind (drop i s) n ≡ None
  behind_other h e = rw (drop-cons s i 0 h) (behind_not _ _ n e)

  pub behind_end : length s ≤ i → behind (drop i s) n ≡ Some n
  unfolding behind digits worth
  behind_end h = rw (drop_of_length-le s h)

number_not : (f : List ℕ) → is_number f ≡ false → number f ≡ None
unfolding number
number_not f e = rw (number, e)

number_is : (f : List ℕ) → is_number f ≡ digits f → number f ≡ behind f 0
unfolding number behind
number_is f e = rw (number, e)

module _ (f : List ℕ) where
  -- no number: too short, too long, or a zero in front of others
  pub number_empty : length f ≡ 0 → number f ≡ None
  unfolding is_number
  number_empty e = number_not f (rw (is_number, e))

  pub number_long : 5 < length f → number f ≡ None
  unfolding is_number
  number_long h = number_not f (rw (is_number, lt-leb (length f) 5 h, and-false (leb 1 (length f))))

  pub number_zero : (length f ≡ 1 → ⊥) → get_or f 0 0 ≡ 48 → number f ≡ None
  unfolding is_number
  number_zero h z =
      number_not f (rw (is_number, ne_eqb (length f) 1 h, z) (and-false (leb 1 (length f) && leb (length f) 5 && digits f)))

  -- else the digits decide
  pub number_one : length f ≡ 1 → number f ≡ behind f 0
  unfolding is_number
  number_one e = number_is f (rw (is_number, e) (and-true (digits f)))

  pub number_more : (length f ≡ 0 → ⊥) → length f ≤ 5 → (get_or f 0 0 ≡ 48 → ⊥) → number f ≡ behind f 0
  unfolding is_number
  number_more z l h =
      number_is f
      (rw (is_number, le-leb 1 (length f) (omega arith), le-leb (length f) 5 l, ne_eqb (get_or f 0 0) 48 h, or-true (eqb (length f) 1))
      (and-true (digits f)))

-- a tab is no digit
digits_tab : {t : List ℕ} {m : ℕ} → Parted tab t m → digits t ≡ false
unfolding digits is_digit
digits_tab Parted.here = refl
digits_tab (Parted.on {x = x} e p) = rw (digits_tab p) (and-false (is_digit x))

pub number_tab : {t : List ℕ} {m : ℕ} → Parted tab t m → number t ≡ None
unfolding is_number
number_tab {t} p = number_not t (rw (is_number, digits_tab p, and-false (leb 1 (length t) && leb (length t) 5)))
