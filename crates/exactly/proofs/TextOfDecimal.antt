-- A number of at most five digits, written in decimal, is a number of the grammar and reads back.
use Rattle.std.proofs.Common.{◌≡◌, refl, ap, ◌∙◌, ⊎_elim, true, List, [], ◌∷◌, ℕ, zero, suc, ◌+◌, ◌/◌, ◌%◌, ◌^◌, ◌≤◌, ◌<◌, not-suc-le-zero, arith, eqb, length, get_or, lt-ltb, le-ltb, le-leb, ne_eqb, Some}
use mathlib.Core.Bool.{or-true}
use Rattle.text.specs.Numbers.{is_digit, digits, is_number, worth, number, decimal_onto, decimal}
use Rattle.plan.proofs.Facts.{row_there}

-- bytes past the tab and the line feed
abbrev pub Plain : List ℕ → Type 0
Plain [] = Unit
Plain (b ∷ bs) = (10 < b) × Plain bs

decimal_last : (d n : ℕ) (bs : List ℕ) → n < 10 → decimal_onto (suc d) n bs ≡ (48 + n) ∷ bs
unfolding decimal_onto
decimal_last d n bs h = rw (lt-ltb n 10 h, decimal_onto)

decimal_more : (d n : ℕ) (bs : List ℕ) → 10 ≤ n → decimal_onto (suc d) n bs ≡ decimal_onto d (n / 10) ((48 + n % 10) ∷ bs)
unfolding decimal_onto
decimal_more d n bs h = rw (le-ltb n 10 h, decimal_onto)

-- what holds of a last digit, and of n where it holds of n / 10 with the last digit of n behind it, holds of every n
spelled : (P : ℕ → List ℕ → List ℕ → Type 0) → ((n : ℕ) (bs : List ℕ) → n < 10 → P n bs ((48 + n) ∷ bs))
    → ((n : ℕ) (bs l : List ℕ) → 10 ≤ n → P (n / 10) ((48 + n % 10) ∷ bs) l → P n bs l)
    → (d n : ℕ) (bs : List ℕ) → n < d → P n bs (decimal_onto d n bs)
spelled P last more zero n bs h = absurd (not-suc-le-zero h)
spelled P last more (suc d) n bs h =
    ⊎_elim
    (λ u. rw (decimal_last d n bs u) (last n bs u))
    (λ u. rw (decimal_more d n bs u)
    (more n bs (decimal_onto d (n / 10) ((48 + n % 10) ∷ bs)) u (spelled P last more d (n / 10) ((48 + n % 10) ∷ bs) (omega arith))))
    (row_there n 10)

module _ (n : ℕ) where
  pub decimal_plain : Plain (decimal n)
  unfolding decimal
  decimal_plain = spelled (λ n bs l. Plain bs → Plain l) (λ n bs h p. (omega arith, p)) (λ n bs l h f p. f (omega arith, p)) (suc n) n [] (omega arith) tt

  is_digit_lem : (k : ℕ) → k < 10 → is_digit (48 + k) ≡ true
  unfolding is_digit
  is_digit_lem k h = rw (le-leb 48 (48 + k) (omega arith), le-leb (48 + k) 57 (omega arith))

  decimal_digits : digits (decimal n) ≡ true
  unfolding decimal digits
  decimal_digits =
      spelled (λ n bs l. digits bs ≡ true → digits l ≡ true)
      (λ n bs h e. rw (is_digit_lem n h, e))
      (λ n bs l h f e. f (rw (is_digit_lem (n % 10) (omega arith), e)))
      (suc n) n [] (omega arith) refl

  decimal_worth : worth (decimal n) 0 ≡ n
  unfolding decimal worth
  decimal_worth =
      spelled (λ n bs l. worth l 0 ≡ worth bs n)
      (λ n bs h. ap (worth bs) (omega arith))
      (λ n bs l h e. e ∙ ap (worth bs) (omega arith))
      (suc n) n [] (omega arith)

  -- no leading zero
  decimal_first : 0 < n → 48 < get_or (decimal n) 0 0
  unfolding decimal
  decimal_first =
      spelled (λ n bs l. 0 < n → 48 < get_or l 0 0)
      (λ n bs h u. omega arith)
      (λ n bs l h f u. f (omega arith))
      (suc n) n [] (omega arith)

  decimal_some : 1 ≤ length (decimal n)
  unfolding decimal
  decimal_some = spelled (λ n bs l. length bs < length l) (λ n bs h. omega arith) (λ n bs l h f. omega arith) (suc n) n [] (omega arith)

  pub decimal_long : n ≤ 99999 → length (decimal n) ≤ 5
  unfolding decimal
  decimal_long h = spelled (λ n bs l. (k : ℕ) → n < 10 ^ suc k → length l ≤ suc k + length bs) (λ n bs h k u. omega arith) more (suc n) n [] (omega arith) 4 (omega arith)
    where
      more : (n : ℕ) (bs l : List ℕ) → 10 ≤ n → ((k : ℕ) → n / 10 < 10 ^ suc k → length l ≤ suc k + suc (length bs))
          → (k : ℕ) → n < 10 ^ suc k → length l ≤ suc k + length bs
      more n bs l h f zero u = absurd (omega arith)
      more n bs l h f (suc k) u = omega (arith, f k (omega arith))

several : (n : ℕ) → suc n ≤ 99999 → is_number (decimal (suc n)) ≡ true
unfolding is_number
several n h =
    rw (
      le-leb 1 (length (decimal (suc n))) (decimal_some (suc n)),
      le-leb (length (decimal (suc n))) 5 (decimal_long (suc n) h),
      decimal_digits (suc n),
      ne_eqb (get_or (decimal (suc n)) 0 0) 48 (omega (arith, decimal_first (suc n) (omega arith))),
    )
    (or-true (eqb (length (decimal (suc n))) 1))

-- it is a number of the grammar
decimal_is_number : (n : ℕ) → n ≤ 99999 → is_number (decimal n) ≡ true
decimal_is_number zero h = unfold is_number decimal decimal_onto digits is_digit in refl
decimal_is_number (suc n) h = several n h

pub decimal_number : (n : ℕ) → n ≤ 99999 → number (decimal n) ≡ Some n
unfolding number
decimal_number n h = rw (decimal_is_number n h, number) (ap Some (decimal_worth n))
