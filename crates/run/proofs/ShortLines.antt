-- A line of a report has at most 128 bytes.
use Rattle.std.proofs.Common.{Bool, true, false, cond, ◌&&◌, [], ◌∷◌, ℕ, ◌+◌, ◌*◌, ◌^◌, ◌≤◌, ◌<◌, div-le_self, lt_of_le_of_lt, le_of_lt, mul-le-mul_left, mul-lt-mul_of_pos_right, arith, ltb, leb, length, pow_pos, pow-add, w64, SFits}
use mathlib.Core.Path.{subst⁻¹}
use mir.Facts.{to_z_pos}
use Rattle.below.specs.Quotient.{rounded_up}
use Rattle.below.proofs.Amounts.{sum_bounded, greatest_most}
use Rattle.text.specs.Bytes.{bytes}
use Rattle.text.specs.Numbers.{decimal}
use Rattle.plan.specs.declared.Plan.{Plan}
use Rattle.plan.specs.Plan.{period, budget, owner, is_global, length_of, declares, level, place}
use Rattle.plan.specs.Admission.{blocking, demand, margin}
use Rattle.plan.proofs.Bounds.{difference_fits}
use Rattle.line.specs.Printed.{printed_refusal}
use Rattle.line.specs.Report.{signed, report_line}
use Rattle.line.proofs.Decimal.{decimal_length}
use Rattle.line.proofs.Signs.{signed_length}
use Rattle.line.proofs.Spaced.{more_length, last_length}
use Rattle.run.proofs.SmallPlan.{Small}

-- the word plan, two digits, five digits
pub refusal_short : (n b : ℕ) → n ≤ 30 → b ≤ 16385 → length (printed_refusal n b) ≤ 128
unfolding printed_refusal bytes
refusal_short n b h k =
    omega
    (arith, more_length (bytes "plan") (decimal n) (decimal b ∷ []), more_length (decimal n) (decimal b) [], last_length (decimal b), decimal_length 1 n (omega arith), decimal_length 4 b (omega arith))

-- a product fits in as many bits as its factors have together
product : (j k : ℕ) {a b : ℕ} → a < 2 ^ j → b < 2 ^ k → a * b < 2 ^ (j + k)
product j k {a} {b} ha hb =
    subst⁻¹ (λ (n : ℕ). a * b < n) (pow-add 2 j k)
    (lt_of_le_of_lt (mul-le-mul_left a (le_of_lt hb)) (mul-lt-mul_of_pos_right ha (pow_pos k)))

-- the numbers of a row
module _ (p : Plan) (w : Small p) where
  period_small : (s : ℕ) → period p s ≤ 65535
  unfolding period
  period_small s = w.periods_small s

  budget_small : (s : ℕ) → budget p s ≤ 65535
  unfolding budget
  budget_small s = w.budgets_small s

  length_small : (t r : ℕ) → length_of p t r ≤ 65535
  unfolding length_of
  length_small t r = w.lengths_small (place t r)

  pick_small : (b : Bool) (x : ℕ) → x ≤ 65535 → cond b x 0 ≤ 65535
  pick_small true x h = h
  pick_small false x h = omega arith

  blocking_small : (s : ℕ) → blocking p s ≤ 65535
  unfolding blocking
  blocking_small s =
      greatest_most p.tasks _ 65535 (λ t h. greatest_most p.resources _ 65535 (λ r k. pick_small (is_global p r && declares p t r && leb (level p s) (level p (owner p t))) (length_of p t r) (length_small t r)))

  rounded_small : (s h : ℕ) → rounded_up (period p s) (period p h) < 2 ^ 17
  unfolding rounded_up
  rounded_small s h = lt_of_le_of_lt (div-le_self _ _) (omega (arith, period_small s, period_small h))

  by_small : (s h : ℕ) (b : Bool) → cond b (budget p h * rounded_up (period p s) (period p h)) 0 ≤ 2 ^ 33
  by_small s h true =
      let l : budget p h < 2 ^ 16 = omega (arith, budget_small h) in
      omega (arith, product 16 17 l (rounded_small s h))
  by_small s h false = omega arith

  -- 8 rows of 33 bits, and two numbers of 16
  demand_small : (s : ℕ) → demand p s < 2 ^ 37
  unfolding demand
  demand_small s =
      omega
      (arith, budget_small s, blocking_small s, w.counts.subsystems, sum_bounded p.subsystems _ (2 ^ 33) (λ h k. by_small s h (ltb (level p h) (level p s))))

  margin_fits : (s : ℕ) → SFits w64 (margin p s)
  unfolding margin
  margin_fits s =
      let a : period p s < 2 ^ 63 = omega (arith, period_small s) in
      let b : demand p s < 2 ^ 63 = omega (arith, demand_small s) in
      rw (to_z_pos w64 a, to_z_pos w64 b) at (difference_fits (period p s) (demand p s) a b)

  pub row_short : (s : ℕ) → s < 8 → length (report_line p s) ≤ 128
  unfolding report_line
  row_short s h =
      omega (
        arith,
        more_length (decimal s) (decimal (period p s)) (decimal (budget p s) ∷ decimal (blocking p s) ∷ decimal (demand p s) ∷ signed (margin p s) ∷ []),
        more_length (decimal (period p s)) (decimal (budget p s)) (decimal (blocking p s) ∷ decimal (demand p s) ∷ signed (margin p s) ∷ []),
        more_length (decimal (budget p s)) (decimal (blocking p s)) (decimal (demand p s) ∷ signed (margin p s) ∷ []),
        more_length (decimal (blocking p s)) (decimal (demand p s)) (signed (margin p s) ∷ []),
        more_length (decimal (demand p s)) (signed (margin p s)) [],
        last_length (signed (margin p s)),
        decimal_length 0 s (omega arith),
        decimal_length 4 (period p s) (omega (arith, period_small s)),
        decimal_length 4 (budget p s) (omega (arith, budget_small s)),
        decimal_length 4 (blocking p s) (omega (arith, blocking_small s)),
        decimal_length 11 (demand p s) (omega (arith, demand_small s)),
        signed_length (margin p s) (margin_fits s),
      )
