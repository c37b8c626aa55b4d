-- The lines of a report, as one text, are the admission report.
use mathlib.Core.Path.{◌≡◌, sym, ◌∙◌}
use mathlib.Core.List.{List, [], ◌∷◌, ◌++◌, append_assoc, append-nil}
use Prim.Native.Nat.{ℕ, zero, suc, ◌+◌}
use native.Mathlib.Numerals.{add-one}
use native.Mathlib.Omega.{arith}
use Rattle.plan.specs.declared.Plan.{Plan}
use Rattle.reader.specs.declared.refusals.Refusal.{Refusal}
use Rattle.reader.specs.Numbers.{number, beside}
use Rattle.reader.specs.Reading.{listed_reading}
use Rattle.std.specs.Prelude.{Result, Ok, Err}
use Rattle.line.specs.Printed.{printed_refusal}
use Rattle.line.specs.Report.{report_line, report_lines, report}
use Rattle.run.specs.AsFar.{in_one}
use Rattle.run.specs.Reporting.{report_from, report_of, reported_lines}

module _ (p : Plan) where
  lines_next : (s : ℕ) → report_lines p (s + 1) ≡ report_lines p s ++ report_line p s
  unfolding report_lines
  lines_next s = rw add-one

  -- the rows before s and n rows from s on
  rows_joined : (n s : ℕ) → report_lines p s ++ in_one (report_from p n s) ≡ report_lines p (s + n)
  unfolding in_one report_from
  rows_joined zero s = let e : s + 0 ≡ s = omega arith in rw e (append-nil (report_lines p s))
  rows_joined (suc n) s =
      let e : s + suc n ≡ s + 1 + n = omega arith in
      rw e (sym (append_assoc (report_lines p s) (report_line p s) _) ∙ rw (← lines_next s) (rows_joined n (s + 1)))

  all_joined : (n : ℕ) → in_one (report_from p n 0) ≡ report_lines p n
  unfolding report_lines
  all_joined n = let e : 0 + n ≡ n = omega arith in rw e at (rows_joined n 0)

pub report_joined : (text : List ℕ) → in_one (reported_lines text) ≡ report text
unfolding reported_lines report_of report in_one
report_joined text = go (listed_reading text)
  where
    go : (r : Result Plan Refusal)
        → in_one (elim r [ Ok p ↦ report_from p p.subsystems 0 | Err e ↦ printed_refusal (number e) (beside e) ∷ [] ])
        ≡ elim r [ Ok p ↦ report_lines p p.subsystems | Err e ↦ printed_refusal (number e) (beside e) ]
    go (Ok p) = all_joined p p.subsystems
    go (Err e) = append-nil (printed_refusal (number e) (beside e))
