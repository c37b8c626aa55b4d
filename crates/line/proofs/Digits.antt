-- Digits written one by one, the last first.
use Rattle.std.proofs.Common.{◌≡◌, ℕ, ◌+◌, ◌/◌, ◌%◌, ◌≤◌, ◌<◌, List, ◌∷◌, ◌++◌, length, length-append, append_assoc, ap, ◌∙◌, arith}
use Rattle.text.specs.Numbers.{decimal}
use Rattle.line.proofs.Decimal.{decimal_small, decimal_large, decimal_some}

-- with the digits of n in front of t, the whole number will stand in front of s
pub record Written (number n : ℕ) (s t : List ℕ) : Type 0 where
  pub whole : decimal n ++ t ≡ decimal number ++ s

module _ {number n : ℕ} {s t : List ℕ} (w : Written number n s t) where
  -- there is room for a digit
  pub digit_room : length (decimal number) + length s ≤ 128 → length t < 128
  digit_room h = omega (arith, simp length-append at (ap length w.whole), decimal_some n)

  -- the last digit of a larger number is written
  pub digit_next : {u : List ℕ} {d m : ℕ} → 10 ≤ n → d ≡ 48 + n % 10 → m ≡ n / 10 → u ≡ d ∷ t → Written number m s u
  digit_next h e f b = record { whole = rw (b, e, f) (rw (decimal_large n h, append_assoc) at w.whole) }

  -- the only digit that is left is written
  pub digit_last : {u : List ℕ} {d : ℕ} → n < 10 → d ≡ 48 + n → u ≡ d ∷ t → u ≡ decimal number ++ s
  digit_last h e b = b ∙ rw e (rw (decimal_small n h) at w.whole)
