-- Laws of the rows of a report: the first of those that are left, none left, and what one line says.
use mathlib.Core.Path.{◌≡◌, sym}
use mathlib.Core.List.{List, [], ◌∷◌}
use lib.IntN.{ℤ}
use Prim.Native.Nat.{ℕ, suc, ◌+◌, ◌-◌, ◌≤◌, ◌<◌}
use native.Mathlib.Omega.{arith}
use Rattle.plan.specs.declared.Plan.{Plan}
use Rattle.plan.specs.Plan.{period, budget}
use Rattle.plan.specs.Admission.{blocking, demand, margin}
use Rattle.reader.specs.declared.refusals.Refusal.{Refusal}
use Rattle.reader.specs.Numbers.{number, beside}
use Rattle.reader.specs.Reading.{listed_reading}
use Rattle.std.specs.Prelude.{Option, Ok, Err}
use Rattle.line.specs.Filled.{fill_after, out_after}
use Rattle.line.specs.Printed.{printed_refusal}
use Rattle.line.specs.Report.{report_line}
use Rattle.line.specs.Reported.{report_text}
use Rattle.line.proofs.Reported.{reported}
use Rattle.run.proofs.AsFarLaws.{Leads, leads_start}
use Rattle.run.specs.Reporting.{report_from, report_of, reported_lines}

module _ (p : Plan) (n s : ℕ) where
  rows_more : s < n → report_from p (n - s) s ≡ report_line p s ∷ report_from p (n - (s + 1)) (s + 1)
  unfolding report_from
  rows_more h = let e : n - s ≡ suc (n - (s + 1)) = omega arith in rw e

  rows_none : n ≤ s → report_from p (n - s) s ≡ []
  unfolding report_from
  rows_none h = let e : n - s ≡ 0 = omega arith in rw e

-- the same of what is still to be written
module _ (p : Plan) (s : ℕ) {out : List ℕ} {at : ℕ} {all : List (List ℕ)} {out₀ : List ℕ} {fill : ℕ} where
  pub leads_row : s < p.subsystems → Leads (report_from p (p.subsystems - s) s) out at all out₀ fill
      → Leads (report_line p s ∷ report_from p (p.subsystems - (s + 1)) (s + 1)) out at all out₀ fill
  leads_row h w = rw (rows_more p p.subsystems s h) at w

  pub leads_none : p.subsystems ≤ s → Leads (report_from p (p.subsystems - s) s) out at all out₀ fill → Leads [] out at all out₀ fill
  leads_none h w = rw (rows_none p p.subsystems s h) at w

-- all are left
pub leads_rows : (p : Plan) (s : ℕ) (out : List ℕ) (fill : ℕ) → s ≡ 0
    → Leads (report_from p (p.subsystems - s) s) out fill (report_from p p.subsystems 0) out fill
leads_rows p s out fill z =
    let e : p.subsystems - 0 ≡ p.subsystems = omega arith in
    rw (z, e) (leads_start _ out fill)

-- the text of the numbers of a row
pub row_text_lem : (p : Plan) (s a b k d : ℕ) {m : ℤ} → a ≡ period p s → b ≡ budget p s
    → k ≡ blocking p s → d ≡ demand p s → m ≡ margin p s → report_text s a b k d m ≡ report_line p s
row_text_lem p s a b k d e f g h i = rw (e, f, g, h, i) (sym (reported p s))

-- what writing the line of a refusal answers, by the refusal's numbers
pub refused_so : (out : List ℕ) (fill n b m k : ℕ) {r : Option ℕ} {new : List ℕ}
    → (r ≡ fill_after out fill (printed_refusal n b)) × (new ≡ out_after out fill (printed_refusal n b)) → n ≡ m → b ≡ k
    → (r ≡ fill_after out fill (printed_refusal m k)) × (new ≡ out_after out fill (printed_refusal m k))
refused_so out fill n b m k w e f = rw (e, f) at w

-- the lines of a plan that has margins, and of one that has not
module _ (text : List ℕ) where
  own_rows : {p : Plan} → listed_reading text ≡ Ok p → reported_lines text ≡ report_from p p.subsystems 0
  unfolding reported_lines report_of
  own_rows e = rw (reported_lines, report_of, e)

  own_refused : {e : Refusal} → listed_reading text ≡ Err e → reported_lines text ≡ printed_refusal (number e) (beside e) ∷ []
  unfolding reported_lines report_of
  own_refused q = rw (reported_lines, report_of, q)

  pub lines_rows : {p : Plan} → listed_reading text ≡ Ok p → report_from p p.subsystems 0 ≡ reported_lines text
  lines_rows e = sym (own_rows e)

  pub lines_refused : {e : Refusal} → listed_reading text ≡ Err e → printed_refusal (number e) (beside e) ∷ [] ≡ reported_lines text
  lines_refused q = sym (own_refused q)
