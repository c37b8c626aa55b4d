-- "Admission": in one period of a row there is room for its blocking and for all that the rows at least as high, itself among them, can want.
use Rattle.std.proofs.Common.{◌≡◌, refl, ap, ◌∙◌, ◌≢◌, ◌⊎◌, inl, inr, Bool, true, false, cond, ℕ, ◌+◌, ◌-◌, ◌*◌, ◌≤◌, ◌<◌, eq-or-lt_of_le, arith, leb, ltb, eqb, leb-true, lt-ltb, eq-eqb, ne_eqb}
use Rattle.below.specs.Below.{sum}
use Rattle.below.specs.Quotient.{rounded_up}
use Rattle.below.proofs.Amounts.{sum_rises, sum_plus, sum_only}
use Rattle.below.proofs.Quotient.{rounded_up_zero, rounded_up_next}
use Rattle.plan.specs.declared.Plan.{Plan}
use Rattle.plan.specs.Plan.{period, budget, level}
use Rattle.plan.specs.Admission.{blocking, demand}
use Rattle.plan.specs.Facts.{Accepted}
use Rattle.plan.proofs.Order.{level_same}

module _ (p : Plan) (A : Accepted p) (s : ℕ) (there : s < p.subsystems) where
  -- what row h can want in one period of s
  wants : ℕ → ℕ
  wants h = budget p h * rounded_up (period p s) (period p h)

  -- s itself its budget, once
  wants_own : wants s ≡ budget p s
  unfolding wants
  wants_own =
      let e : period p s - period p s ≡ 0 = omega arith in
      let n = rounded_up_next (period p s) (period p s) (A.period_whole s there) (A.period_whole s there) in
      let q : rounded_up (period p s) (period p s) ≡ 1 = n ∙ rw (e, rounded_up_zero (period p s) (A.period_whole s there)) in
      rw q (omega arith)

  -- the budget of s, at s
  own : ℕ → ℕ
  own h = cond (eqb h s) (budget p s) 0

  -- a row at least as high is s or has a smaller level
  high_or_own : (h : ℕ) → cond (leb (level p h) (level p s)) (wants h) 0 ≤ cond (ltb (level p h) (level p s)) (wants h) 0 + own h
  unfolding own
  high_or_own h = go (leb (level p h) (level p s)) refl
    where
      high : (level p h ≡ level p s) ⊎ (level p h < level p s) → wants h ≤ cond (ltb (level p h) (level p s)) (wants h) 0 + cond (eqb h s) (budget p s) 0
      high (inl e) =
          let q = level_same p h s e in
          rw (eq-eqb h s q, ap wants q ∙ wants_own) (omega arith)
      high (inr l) = rw (lt-ltb _ _ l) (omega arith)

      go : (b : Bool) → leb (level p h) (level p s) ≡ b → cond b (wants h) 0 ≤ cond (ltb (level p h) (level p s)) (wants h) 0 + cond (eqb h s) (budget p s) 0
      go true e = high (eq-or-lt_of_le (leb-true _ _ e))
      go false e = omega arith

  -- which adds up to the budget of s
  own_sum : sum p.subsystems own ≡ budget p s
  unfolding own
  own_sum = sum_only p.subsystems own s there others ∙ at_s
    where
      others : (h : ℕ) → h < p.subsystems → h ≢ s → own h ≡ 0
      others h l n = rw (ne_eqb h s n)

      at_s : own s ≡ budget p s
      at_s = rw (eq-eqb s s refl)

  -- what a row of smaller level wants
  strict : ℕ → ℕ
  strict h = cond (ltb (level p h) (level p s)) (wants h) 0

  -- the demand, with s counted among the rows at least as high
  pub high_fits : blocking p s + sum p.subsystems (λ h. cond (leb (level p h) (level p s)) (budget p h * rounded_up (period p s) (period p h)) 0) ≤ period p s
  unfolding demand wants strict
  high_fits =
      omega (
        arith,
        A.fits s there,
        own_sum,
        sum_plus p.subsystems strict own,
        sum_rises p.subsystems (λ h. cond (leb (level p h) (level p s)) (wants h) 0) (λ h. strict h + own h) (λ h l. high_or_own h),
      )
