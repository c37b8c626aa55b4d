-- The signed difference of two numbers.
use Rattle.std.proofs.Common.{◌≡◌, ap₂, ◌∙◌, Bool, true, false, cond, ℕ, zero, suc, ◌-◌, ◌^◌, ◌<◌, arith, ltb, pos, negsuc, ◌-ℤ◌, w64, SFits, to_z, of_z, to_z-of_z}
use lib.Signed.{mag}
use mir.Facts.{to_z_pos}

-- A difference of two numbers is no further from 0 than they are.
difference : (n a b : ℕ) → a < n → b < n → mag (pos a -ℤ pos b) < n
difference n a zero ha hb = omega arith
difference n a (suc b) ha hb = go (ltb a (suc b))
  where
    go : (t : Bool) → mag (cond t (negsuc (suc b - suc a)) (pos (a - suc b))) < n
    go true = omega arith
    go false = omega arith

-- So the signed difference of two numbers below 2 ^ 63 fits, and is theirs.
module _ (a b : ℕ) (ha : a < 2 ^ 63) (hb : b < 2 ^ 63) where
  plain : to_z w64 a -ℤ to_z w64 b ≡ pos a -ℤ pos b
  plain = ap₂ ◌-ℤ◌ (to_z_pos w64 ha) (to_z_pos w64 hb)

  pub difference_fits : SFits w64 (to_z w64 a -ℤ to_z w64 b)
  difference_fits = rw plain (record { sfits = difference (2 ^ 63) a b ha hb })

  pub difference_is : to_z w64 (of_z w64 (to_z w64 a -ℤ to_z w64 b)) ≡ pos a -ℤ pos b
  difference_is = to_z-of_z difference_fits ∙ plain
