-- A buffer of 1,024 bytes has room for any report: at most 8 lines of at most 128 bytes each.
use mathlib.Core.Path.{◌≡◌, refl, ap, ◌∙◌}
use mathlib.Core.Bool.{true}
use mathlib.Core.List.{List, [], ◌∷◌, append-nil}
use Prim.Native.Nat.{ℕ, zero, suc, ◌+◌, ◌*◌, ◌≤◌}
use native.Mathlib.Omega.{arith}
use native.Mathlib.Nat.{zero-add}
use lib.ListN.{length, take, length-append}
use lib.Seq.{take_at}
use Rattle.plan.specs.declared.Plan.{Plan}
use Rattle.reader.specs.declared.refusals.Refusal.{Refusal}
use Rattle.reader.specs.Numbers.{number, beside}
use Rattle.reader.specs.Reading.{listed_reading}
use Rattle.std.specs.Prelude.{Result, Ok, Err}
use Rattle.line.specs.Printed.{printed_refusal}
use Rattle.line.specs.Report.{report}
use Rattle.run.specs.AsFar.{as_far, as_far_out, fill_of, is_whole, in_one}
use Rattle.run.specs.Reporting.{report_from, report_of, reported_lines}
use Rattle.run.proofs.OneText.{Whole, all_whole}
use Rattle.run.proofs.InOne.{report_joined}
use Rattle.run.proofs.LongText.{cut_lines}
use Rattle.run.proofs.SmallPlan.{Small, Modest, modest_listed, number_most}
use Rattle.run.proofs.ShortLines.{refusal_short, row_short}

rows_length : (p : Plan) → Small p → (n s : ℕ) → s + n ≤ 8 → length (in_one (report_from p n s)) ≤ n * 128
unfolding in_one report_from
rows_length p w zero s h = omega arith
rows_length p w (suc n) s h =
    rw length-append (omega (arith, row_short p w s (omega arith), rows_length p w n (s + 1) (omega arith)))

report_length : (text : List ℕ) → length (in_one (reported_lines text)) ≤ 1024
unfolding reported_lines report_of in_one
report_length text = go (listed_reading text) (modest_listed text)
  where
    go : (r : Result Plan Refusal) → Modest 16385 r
        → length (in_one (elim r [ Ok p ↦ report_from p p.subsystems 0 | Err e ↦ printed_refusal (number e) (beside e) ∷ [] ])) ≤ 1024
    go (Ok p) w =
        let f = w.counts.subsystems in
        omega (arith, rows_length p w p.subsystems 0 (omega arith))
    go (Err e) w = rw append-nil (omega (arith, refusal_short (number e) (beside e) (number_most e) w))

-- any report, from the start of the buffer on
pub report_whole : (text out : List ℕ) → 1024 ≤ length out → Whole (reported_lines text) out 0
report_whole text out h = all_whole (reported_lines text) out 0 (omega (arith, report_length text))

pub report_room : (text out : List ℕ) → 1024 ≤ length out → is_whole (as_far (reported_lines text) out 0) ≡ true
report_room text out h = ap is_whole (report_whole text out h).answer

-- the bytes before the new fill are the admission report
pub report_printed : (text out : List ℕ) → 1024 ≤ length out
    → take (fill_of (as_far (reported_lines text) out 0)) (as_far_out (reported_lines text) out 0) ≡ report text
report_printed text out h =
    let w = report_whole text out h in
    rw (w.answer, w.holds, zero-add) (take_at (in_one (reported_lines text)) _ _ refl ∙ report_joined text)

-- so a program that reads 16,385 bytes of a file at most prints what the whole file deserves
pub cut_printed : (text out : List ℕ) → 1024 ≤ length out
    → take (fill_of (as_far (reported_lines (take 16385 text)) out 0)) (as_far_out (reported_lines (take 16385 text)) out 0) ≡ report text
cut_printed text out h = rw (cut_lines text) (report_printed text out h)

-- the new fill is within the buffer
pub report_fill : (text out : List ℕ) → 1024 ≤ length out → fill_of (as_far (reported_lines text) out 0) ≤ 1024
report_fill text out h = omega (arith, ap fill_of (report_whole text out h).answer, report_length text)
