-- "Admission", 20: a text that is too long stays too long when it is cut one byte behind the limit.
use mathlib.Core.Path.{◌≡◌, refl, ap, sym, ◌∙◌}
use mathlib.Core.Bool.{Bool, true, false}
use mathlib.Core.List.{List}
use Prim.Native.Nat.{ℕ, ◌<◌}
use native.Mathlib.Omega.{arith}
use lib.Dec.{ltb}
use lib.ListN.{length, take, length-take}
use lib.Seq.{take_all}
use borrow.Author.Tests.{ltb-true, ltb-false}
use Rattle.plan.specs.declared.Plan.{Plan}
use Rattle.reader.specs.declared.refusals.Refusal.{Refusal}
use Rattle.reader.specs.Reading.{most_bytes, listed_reading, judged_margins, reading}
use Rattle.reader.proofs.Answers.{listed_long}
use Rattle.std.specs.Prelude.{Result, Ok, Err}
use Rattle.run.specs.Reporting.{report_of, reported_lines}

pub cut_listed : (text : List ℕ) → listed_reading (take 16385 text) ≡ listed_reading text
cut_listed text = go (ltb most_bytes (length text)) refl
  where
    go : (b : Bool) → ltb most_bytes (length text) ≡ b → listed_reading (take 16385 text) ≡ listed_reading text
    go true t =
        let h = ltb-true most_bytes (length text) t in
        let k : most_bytes < length (take 16385 text) = rw length-take (omega arith) in
        listed_long (take 16385 text) k ∙ sym (listed_long text h)
    go false t =
        let h = ltb-false most_bytes (length text) t in
        ap listed_reading (take_all 16385 text (omega arith))

pub cut_reading : (text : List ℕ) → reading (take 16385 text) ≡ reading text
unfolding reading
cut_reading text = ap (λ (r : Result Plan Refusal). elim r [ Ok p ↦ judged_margins p | Err e ↦ Err e ]) (cut_listed text)

pub cut_lines : (text : List ℕ) → reported_lines (take 16385 text) ≡ reported_lines text
unfolding reported_lines
cut_lines text = ap report_of (cut_listed text)
