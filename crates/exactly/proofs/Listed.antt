-- A plan text is accepted exactly when it meets the listed conditions, and a refusal names the first one broken.
use mathlib.Core.Path.{◌≡◌, refl, sym, ◌∙◌}
use mathlib.Core.Bool.{Bool, true, false}
use mathlib.Core.List.{List}
use Prim.Native.Nat.{ℕ, ◌≤◌, ◌<◌}
use native.Mathlib.Nat.{not-suc-le-zero}
use native.Mathlib.Omega.{arith}
use lib.Dec.{ltb, eqb}
use lib.ListN.{length}
use borrow.Author.Tests.{ltb-true, ltb-false, eqb-true, eqb-false}
use Rattle.below.proofs.Search.{first_passes, first_before}
use Rattle.text.specs.Lines.{lines}
use Rattle.plan.specs.declared.Plan.{Plan}
use Rattle.plan.specs.Plan.{period}
use Rattle.plan.specs.Admission.{demand, first_negative}
use Rattle.reader.specs.declared.refusals.Refusal.{Refusal}
use Rattle.reader.specs.declared.refusals.Refusal.TheVariants.{TooLong, NoSubsystem, NegativeMargin}
use Rattle.reader.specs.Numbers.{number, beside}
use Rattle.reader.specs.Reading.{most_bytes, empty_plan, read_from, judged_rowless, listed_reading, judged_margins, reading}
use Rattle.exactly.specs.Listed.{lines_of, count_of, LineMeets, plan_after, plan_in, Meets, FirstBroken}
use Rattle.exactly.specs.Listed.FirstBroken.{too_long, bad_line, no_subsystem, negative}
use Rattle.exactly.proofs.ListedPairs.{tied_empty}
use Rattle.exactly.proofs.ListedJudged.{Outcome, SoFar, outcome}
use Rattle.std.proofs.Common.{Result, Ok, Err}

-- what reading answers but for 30: the plan of the lines, all of which meet their conditions, or the first condition broken
pub data Listing (text : List ℕ) : Result Plan Refusal → Type 0 where
  listed : length text ≤ most_bytes
      → ((i : ℕ) → i < length (lines_of text) → LineMeets (lines_of text) i)
      → 1 ≤ count_of 0 (lines_of text)
      → (plan_in text).subsystems ≡ count_of 0 (lines_of text) → Listing text (Ok (plan_in text))
  unlisted : (e : Refusal) → FirstBroken text (number e) (beside e) → Listing text (Err e)

-- what reading answers: the plan of a text that meets the conditions, or the first condition broken
pub data Answer (text : List ℕ) : Result Plan Refusal → Type 0 where
  accepted : Meets text → Answer text (Ok (plan_in text))
  broken : (e : Refusal) → FirstBroken text (number e) (beside e) → Answer text (Err e)

module _ (text : List ℕ) where
  -- all lines meet their conditions: the subsystems are left
  listing_whole : length text ≤ most_bytes → ((i : ℕ) → i < length (lines_of text) → LineMeets (lines_of text) i)
      → (plan_in text).subsystems ≡ count_of 0 (lines_of text) → Listing text (judged_rowless (plan_in text))
  unfolding judged_rowless
  listing_whole short each count = go (eqb (plan_in text).subsystems 0) refl
    where
      go : (a : Bool) → eqb (plan_in text).subsystems 0 ≡ a → Listing text (elim a [ true ↦ Err NoSubsystem | false ↦ Ok (plan_in text) ])
      go true e = unlisted NoSubsystem (no_subsystem short each (sym count ∙ eqb-true (plan_in text).subsystems 0 e))
      go false e = listed short each (omega (arith, eqb-false (plan_in text).subsystems 0 e, count)) count

  -- the text is short enough: by what reading its lines comes to
  listing_short : length text ≤ most_bytes → (r : Result Plan Refusal) → Outcome (lines_of text) r
      → Listing text (elim r [ Ok p ↦ judged_rowless p | Err e ↦ Err e ])
  unfolding plan_in
  listing_short short r o = go o
    where
      go : {r : Result Plan Refusal} → Outcome (lines_of text) r → Listing text (elim r [ Ok p ↦ judged_rowless p | Err e ↦ Err e ])
      go (Outcome.whole each last w) = listing_whole short each w.tables.subsystems_are
      go (Outcome.stopped v i c there before met not n k) = unlisted v (rw (n, k) (bad_line short i there before c met not))

  pub listing : Listing text (listed_reading text)
  unfolding listed_reading lines_of plan_after
  listing = go (ltb most_bytes (length text)) refl
    where
      start : SoFar (lines_of text) 0 0 empty_plan
      start = record { tied = tied_empty; meets = λ j h. absurd (not-suc-le-zero h); plan_is = refl }

      go : (b : Bool) → ltb most_bytes (length text) ≡ b → Listing text
          (elim b [
            | true ↦ Err TooLong
            | false ↦ elim (read_from (lines text) 1 0 empty_plan) [ Ok p ↦ judged_rowless p | Err e ↦ Err e ]
          ])
      go true e = unlisted TooLong (too_long (ltb-true most_bytes (length text) e))
      go false e =
          listing_short (ltb-false most_bytes (length text) e) (read_from (lines text) 1 0 empty_plan)
          (outcome (lines_of text) (lines text) 0 0 empty_plan refl start)

  -- the margins are left
  answer_listed : length text ≤ most_bytes → ((i : ℕ) → i < length (lines_of text) → LineMeets (lines_of text) i) → 1 ≤ count_of 0 (lines_of text)
      → (plan_in text).subsystems ≡ count_of 0 (lines_of text) → Answer text (judged_margins (plan_in text))
  unfolding judged_margins first_negative
  answer_listed short each some count = go (ltb (first_negative p) p.subsystems) refl
    where
      p : Plan
      p = plan_in text

      over : ℕ → Bool
      over s = ltb (period p s) (demand p s)

      enough : (s : ℕ) → s < first_negative p → demand p s ≤ period p s
      enough s h = ltb-false (period p s) (demand p s) (first_before p.subsystems over s h)

      go : (b : Bool) → ltb (first_negative p) p.subsystems ≡ b → Answer text (elim b [ true ↦ Err (NegativeMargin (first_negative p)) | false ↦ Ok p ])
      go true q =
          broken (NegativeMargin (first_negative p))
          (negative short each (first_negative p)
          (omega (arith, ltb-true (first_negative p) p.subsystems q, count))
          enough
          (ltb-true (period p (first_negative p)) (demand p (first_negative p)) (first_passes p.subsystems over (ltb-true (first_negative p) p.subsystems q))))
      go false q = accepted (record {
        short = short;
        each = each;
        some_subsystem = some;
        margins = λ s h. enough s (omega (arith, ltb-false (first_negative p) p.subsystems q, count));
      })

  pub answer : Answer text (reading text)
  unfolding reading
  answer = go listing
    where
      go : {r : Result Plan Refusal} → Listing text r → Answer text (elim r [ Ok p ↦ judged_margins p | Err e ↦ Err e ])
      go (listed short each some count) = answer_listed short each some count
      go (unlisted e f) = broken e f

err_is : {v e : Refusal} → ◌≡◌ {A = Result Plan Refusal} (Err v) (Err e) → v ≡ e
err_is q = cc

-- no text both meets the conditions and breaks one
apart : (text : List ℕ) {a b : ℕ} → Meets text → FirstBroken text a b → ⊥
apart text m (too_long h) = omega (arith, m.short)
apart text m (bad_line short i h before c met not) = not (m.each i h c)
apart text m (no_subsystem short each none) = omega (arith, m.some_subsystem)
apart text m (negative short each s h before over) = omega (arith, m.margins s h)

pub accepted_meets : (text : List ℕ) {p : Plan} → reading text ≡ Ok p → Meets text
accepted_meets text = go (answer text)
  where
    go : {r : Result Plan Refusal} {p : Plan} → Answer text r → r ≡ Ok p → Meets text
    go (accepted m) e = m
    go (broken v f) e = absurd (cc)

pub meets_accepted : (text : List ℕ) → Meets text → reading text ≡ Ok (plan_in text)
meets_accepted text m = go (answer text)
  where
    go : {r : Result Plan Refusal} → Answer text r → r ≡ Ok (plan_in text)
    go (accepted n) = refl
    go (broken v f) = absurd (apart text m f)

pub refused_first : (text : List ℕ) {e : Refusal} → reading text ≡ Err e → FirstBroken text (number e) (beside e)
refused_first text = go (answer text)
  where
    go : {r : Result Plan Refusal} {e : Refusal} → Answer text r → r ≡ Err e → FirstBroken text (number e) (beside e)
    go (accepted m) q = absurd (cc)
    go (broken v f) q = rw (err_is q) at f

-- the plan of an accepted text is the plan of its lines
pub accepted_plan : (text : List ℕ) {p : Plan} → reading text ≡ Ok p → p ≡ plan_in text
accepted_plan text = go (answer text)
  where
    go : {r : Result Plan Refusal} {p : Plan} → Answer text r → r ≡ Ok p → p ≡ plan_in text
    go (accepted m) e = cc
    go (broken v f) e = absurd (cc)

-- so is the plan of a text that meets no refusal but 30
pub listed_plan : (text : List ℕ) {p : Plan} → listed_reading text ≡ Ok p → p ≡ plan_in text
listed_plan text = go (listing text)
  where
    go : {r : Result Plan Refusal} {p : Plan} → Listing text r → r ≡ Ok p → p ≡ plan_in text
    go (listed short each some count) e = cc
    go (unlisted v f) e = absurd (cc)
