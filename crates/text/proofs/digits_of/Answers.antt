use Rattle.std.proofs.Common.{ℕ, ◌<◌, ◌≤◌, ◌^◌, refl, sym, ◌∙◌, arith, add-one, rules}
use native.Mathlib.Nat.{pow-succ', pow-le-pow_right}
use Rattle.text.specs.Numbers.{is_digit}
use Rattle.text.proofs.Numbers.{behind_digit, behind_other, behind_end}
use Rattle.text.proofs.digits_of.Goals as goal

-- below a fifth digit
small : (n i : ℕ) → n < 10 ^ i → i ≤ 4 → n < 10000
small n i h l = omega (arith, pow-le-pow_right {n = 10} (omega arith) {i = i} {j = 4} l)

pub loop-b-init : goal.loop-b-init
loop-b-init c = (refl, omega arith)

pub returns-then-not-is_ascii_digit : goal.returns-then-not-is_ascii_digit
unfolding is_digit
returns-then-not-is_ascii_digit c =
    let l = c.loop-b in
    sym (behind_other c.args.s.now l.b-index l.n c.loop-b-test.true (search rules)) ∙ l.invariant.0

pub overflow_mul-n : goal.overflow_mul-n
overflow_mul-n c = let l = c.loop-b in omega (arith, small l.n l.b-index l.invariant.1 (omega arith))

pub overflow_add-n : goal.overflow_add-n
overflow_add-n c = let l = c.loop-b in omega (arith, small l.n l.b-index l.invariant.1 (omega arith))

pub loop-b-preserved : goal.loop-b-preserved
unfolding is_digit
loop-b-preserved c =
    let l = c.loop-b in
    rw add-one (
      sym (behind_digit c.args.s.now l.b-index l.n c.loop-b-test.true (search rules)) ∙ l.invariant.0,
      grind (arith, pow-succ' 10 l.b-index, c.is_ascii_digit.ensures),
    )

pub returns : goal.returns
returns c = let l = c.loop-b in sym (behind_end c.args.s.now l.b-index l.n (omega arith)) ∙ l.invariant.0
