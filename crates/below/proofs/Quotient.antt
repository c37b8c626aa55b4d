-- Laws of the quotient rounded up.
use Rattle.std.proofs.Common.{◌≡◌, refl, ap, ◌∙◌, Bool, true, false, ℕ, ◌+◌, ◌-◌, ◌/◌, ◌≤◌, ◌<◌, le_trans, le-div_iff_mul-le, div-mul-le_self, arith, leb, leb-true, leb-false}
use native.Mathlib.Nat.{div-eq_of_lt, div-eq-sub-div}
use Rattle.below.specs.Quotient.{rounded_up}

pub rounded_up_zero : (p : ℕ) → 0 < p → rounded_up 0 p ≡ 0
unfolding rounded_up
rounded_up_zero p h = div-eq_of_lt (omega arith)

-- p less is one less, down to nothing
pub rounded_up_next : (m p : ℕ) → 0 < p → 0 < m → rounded_up m p ≡ rounded_up (m - p) p + 1
unfolding rounded_up
rounded_up_next m p h l = go (leb p m) refl
  where
    q : (m + (p - 1)) / p ≡ (m + (p - 1) - p) / p + 1
    q = div-eq-sub-div h (omega arith)

    go : (b : Bool) → leb p m ≡ b → (m + (p - 1)) / p ≡ (m - p + (p - 1)) / p + 1
    go true e =
        let v = leb-true p m e in
        q ∙ ap (λ (x : ℕ). x / p + 1) (omega arith)
    go false e =
        let v = leb-false p m e in
        let a : (m + (p - 1) - p) / p ≡ 0 = div-eq_of_lt (omega arith) in
        let b : (m - p + (p - 1)) / p ≡ 0 = div-eq_of_lt (omega arith) in
        omega (arith, q)

pub rounded_up_rises : (m n p : ℕ) → 0 < p → m ≤ n → rounded_up m p ≤ rounded_up n p
unfolding rounded_up
rounded_up_rises m n p h l =
    (le-div_iff_mul-le h).1 (le_trans (div-mul-le_self (m + (p - 1)) p) (omega arith))
