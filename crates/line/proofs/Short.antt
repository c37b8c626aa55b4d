-- The printed line of an event has at most 109 bytes: 10 digits, 3, two rows of 3, 85 for the tasks ended, 4 spaces and the line feed. The 32 task rows
-- have 54 digits and 31 commas. So 128 bytes have room for any.
use Rattle.std.proofs.Common.{◌≡◌, ℕ, zero, suc, ◌+◌, ◌-◌, ◌*◌, ◌≤◌, ◌<◌, Bool, true, false, List, [], ◌∷◌, ◌++◌, length, length-append, refl, arith}
use Rattle.std.specs.Prelude.{eqb, ltb}
use borrow.Author.Tests.{ltb-true, ltb-false}
use Rattle.text.specs.Bytes.{bytes}
use Rattle.text.specs.Numbers.{decimal}
use Rattle.step.specs.declared.Outcome.{Outcome}
use Rattle.line.specs.Printed.{row_text, is_in, comma_before, rows_onto, ended_text, answer_line, printed}
use Rattle.line.proofs.Decimal.{decimal_length, decimal_some, digits_u8, digits_u32}
use Rattle.line.proofs.Fields.{row_length}
use Rattle.line.proofs.Spaced.{more_length, last_length}

-- how many bytes rows take with a comma in front of the first; none take nothing
weight : List ℕ → ℕ
weight [] = 0
weight (b ∷ bs) = suc (length (b ∷ bs))

weight_length : (t : List ℕ) → length t ≤ weight t - 1
unfolding weight
weight_length [] = omega arith
weight_length (b ∷ bs) = omega arith

-- a list that has bytes
weight_some : (t : List ℕ) → 1 ≤ length t → weight t ≡ suc (length t)
unfolding weight
weight_some [] h = absurd (omega arith)
weight_some (b ∷ bs) h = refl

-- a row in front takes its digits and a comma
comma_weight : (k : ℕ) (t : List ℕ) → weight (comma_before k t) ≡ suc (length (decimal k)) + weight t
unfolding comma_before weight bytes
comma_weight k [] = rw (weight_some (decimal k) (decimal_some k)) (omega arith)
comma_weight k (b ∷ bs) =
    let l = length-append (decimal k) (44 ∷ b ∷ bs) in
    omega (arith, l, weight_some (decimal k ++ (44 ∷ b ∷ bs)) (omega arith))

-- one digit below 10, two below 100
digits : (k : ℕ) → k < 100 → suc (length (decimal k)) + (2 * k + (k - 10)) ≤ 2 * suc k + (suc k - 10)
digits k h = go (ltb k 10) refl
  where
    go : (b : Bool) → ltb k 10 ≡ b → suc (length (decimal k)) + (2 * k + (k - 10)) ≤ 2 * suc k + (suc k - 10)
    go true t = omega (arith, ltb-true k 10 t, decimal_length 0 k (ltb-true k 10 t))
    go false t = omega (arith, ltb-false k 10 t, decimal_length 1 k h)

-- rows below n
rows_weight : (n set : ℕ) (t : List ℕ) → n ≤ 100 → weight (rows_onto n set t) ≤ weight t + (2 * n + (n - 10))
unfolding rows_onto
rows_weight zero set t h = omega arith
rows_weight (suc n) set t h = go (is_in set n) (rows_weight n set (comma_before n t)) (rows_weight n set t)
  where
    go : (b : Bool)
        → (n ≤ 100 → weight (rows_onto n set (comma_before n t)) ≤ weight (comma_before n t) + (2 * n + (n - 10)))
        → (n ≤ 100 → weight (rows_onto n set t) ≤ weight t + (2 * n + (n - 10)))
        → weight (elim b [ true ↦ rows_onto n set (comma_before n t) | false ↦ rows_onto n set t ]) ≤ weight t + (2 * suc n + (suc n - 10))
    go true i o = omega (arith, i (omega arith), comma_weight n t, digits n (omega arith))
    go false i o = omega (arith, o (omega arith))

pub rows_length : (set : ℕ) → length (rows_onto 32 set []) ≤ 85
unfolding weight
rows_length set = omega (arith, weight_length (rows_onto 32 set []), rows_weight 32 set [] (omega arith))

pub ended_length : (set : ℕ) → length (ended_text set) ≤ 85
unfolding ended_text bytes
ended_length set = go (eqb set 0)
  where
    go : (b : Bool) → length {A = ℕ} (elim b [ true ↦ bytes "-" | false ↦ rows_onto 32 set [] ]) ≤ 85
    go true = omega arith
    go false = rows_length set

pub answer_length : (n answer subsystem task ended : ℕ) → n < 4294967296 → answer < 256 → subsystem < 256 → task < 256
    → length (answer_line n answer subsystem task ended) ≤ 109
unfolding answer_line
answer_length n answer subsystem task ended a b c d =
    omega (
      arith,
      more_length (decimal n) (decimal answer) (row_text subsystem ∷ row_text task ∷ ended_text ended ∷ []),
      more_length (decimal answer) (row_text subsystem) (row_text task ∷ ended_text ended ∷ []),
      more_length (row_text subsystem) (row_text task) (ended_text ended ∷ []),
      more_length (row_text task) (ended_text ended) [],
      last_length (ended_text ended),
      digits_u32 n a,
      digits_u8 answer b,
      row_length subsystem c,
      row_length task d,
      ended_length ended,
    )

pub printed_length : (n : ℕ) (o : Outcome) → n < 4294967296 → o.answer < 256 → o.subsystem < 256 → o.task < 256 → length (printed n o) ≤ 109
unfolding printed
printed_length n o a b c d = answer_length n o.answer o.subsystem o.task o.ended a b c d
