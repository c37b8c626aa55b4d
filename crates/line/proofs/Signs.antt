-- Laws of a signed number's text: a dash in front of a negative number's size.
use Rattle.std.proofs.Common.{◌≡◌, ℕ, suc, ◌≤◌, ◌∷◌, true, false, length, refl, ap, ◌∙◌, arith, to_z-of_z, w64, SFits, of_z, to_z}
use Rattle.std.specs.Prelude.{ℤ, pos, negsuc, nat_abs}
use lib.Signed.{lt_z}
use borrow.Author.Tests.{ltb-true}
use Rattle.text.specs.Bytes.{bytes}
use Rattle.text.specs.Numbers.{decimal}
use Rattle.line.specs.Report.{signed}
use Rattle.line.proofs.Decimal.{decimal_length}

-- a number as it is read from a register
abbrev pub read : ℤ → ℤ
read z = to_z w64 (of_z w64 z)

-- the text of a negative number, and of any other
pub signed_below : (z : ℤ) → SFits w64 z → lt_z (read z) (pos 0) ≡ true → signed z ≡ 45 ∷ decimal (nat_abs z)
unfolding signed bytes
signed_below z f t = go z (rw (to_z-of_z f) at t)
  where
    go : (y : ℤ) → lt_z y (pos 0) ≡ true → signed y ≡ 45 ∷ decimal (nat_abs y)
    go (pos n) e = absurd (omega (arith, ltb-true n 0 e))
    go (negsuc n) e = refl

pub signed_plain : (z : ℤ) → SFits w64 z → lt_z (read z) (pos 0) ≡ false → signed z ≡ decimal (nat_abs z)
unfolding signed
signed_plain z f t = go z (rw (to_z-of_z f) at t)
  where
    go : (y : ℤ) → lt_z y (pos 0) ≡ false → signed y ≡ decimal (nat_abs y)
    go (pos n) e = refl
    go (negsuc n) e = let o : ◌≡◌ {A = ℕ} 0 1 = cc in absurd (omega arith)

pub size_length : (z : ℤ) → SFits w64 z → length (decimal (nat_abs z)) ≤ 19
size_length (pos n) f = decimal_length 18 n (omega (arith, f.sfits))
size_length (negsuc n) f = decimal_length 18 (suc n) (omega (arith, f.sfits))

pub signed_length : (z : ℤ) → SFits w64 z → length (signed z) ≤ 20
unfolding signed bytes
signed_length (pos n) f = omega (arith, size_length (pos n) f)
signed_length (negsuc n) f = omega (arith, size_length (negsuc n) f)

-- of a number as it is read
module _ {z : ℤ} {n : ℕ} (f : SFits w64 z) (e : n ≡ nat_abs (read z)) where
  size : n ≡ nat_abs z
  size = e ∙ ap nat_abs (to_z-of_z f)

  pub size_short : length (decimal n) ≤ 19
  size_short = rw size (size_length z f)

  pub below_text : lt_z (read z) (pos 0) ≡ true → signed z ≡ 45 ∷ decimal n
  below_text t = rw size (signed_below z f t)

  pub plain_text : lt_z (read z) (pos 0) ≡ false → signed z ≡ decimal n
  plain_text t = rw size (signed_plain z f t)
