-- Laws of the whole reading: 20, the lines, 29, and then 30.
use mathlib.Core.Path.{◌≡◌}
use mathlib.Core.List.{List}
use Prim.Native.Nat.{ℕ, ◌≤◌, ◌<◌}
use lib.ListN.{length}
use borrow.Author.Tests.{lt-ltb, le-ltb, eq-eqb, ne_eqb}
use Rattle.text.specs.Lines.{lines}
use Rattle.plan.specs.declared.Plan.{Plan}
use Rattle.plan.specs.Admission.{first_negative}
use Rattle.reader.specs.declared.refusals.Refusal.{Refusal}
use Rattle.reader.specs.declared.refusals.Refusal.TheVariants.{TooLong, NoSubsystem, NegativeMargin}
use Rattle.reader.specs.Reading.{most_bytes, empty_plan, read_from, judged_rowless, listed_reading, judged_margins, reading}
use Rattle.std.proofs.Common.{Ok, Err}

module _ (text : List ℕ) where
  -- 20
  pub listed_long : most_bytes < length text → listed_reading text ≡ Err TooLong
  unfolding listed_reading
  listed_long h = rw (listed_reading, lt-ltb most_bytes (length text) h)

  -- the lines, and then 29
  module _ (h : length text ≤ most_bytes) where
    pub listed_bad : {v : Refusal} → read_from (lines text) 1 0 empty_plan ≡ Err v → listed_reading text ≡ Err v
    unfolding listed_reading
    listed_bad e = rw (listed_reading, le-ltb most_bytes (length text) h, e)

    module _ {p : Plan} (e : read_from (lines text) 1 0 empty_plan ≡ Ok p) where
      pub listed_none : p.subsystems ≡ 0 → listed_reading text ≡ Err NoSubsystem
      unfolding listed_reading judged_rowless
      listed_none z = rw (listed_reading, le-ltb most_bytes (length text) h, e, judged_rowless, eq-eqb p.subsystems 0 z)

      pub listed_some : (p.subsystems ≡ 0 → ⊥) → listed_reading text ≡ Ok p
      unfolding listed_reading judged_rowless
      listed_some n = rw (listed_reading, le-ltb most_bytes (length text) h, e, judged_rowless, ne_eqb p.subsystems 0 n)

  -- a refusal of what is listed comes before 30
  pub reading_unlisted : {v : Refusal} → listed_reading text ≡ Err v → reading text ≡ Err v
  unfolding reading
  reading_unlisted e = rw (reading, e)

  -- 30
  module _ {p : Plan} (e : listed_reading text ≡ Ok p) where
    pub reading_negative : {n : ℕ} → n ≡ first_negative p → n < p.subsystems → reading text ≡ Err (NegativeMargin n)
    unfolding reading judged_margins
    reading_negative f h = rw (reading, e, judged_margins, ← f, lt-ltb _ p.subsystems h) (rw f)

    pub reading_fine : {n : ℕ} → n ≡ first_negative p → p.subsystems ≤ n → reading text ≡ Ok p
    unfolding reading judged_margins
    reading_fine f h = rw (reading, e, judged_margins, ← f, le-ltb _ p.subsystems h)

  pub reading_long : most_bytes < length text → reading text ≡ Err TooLong
  reading_long h = reading_unlisted (listed_long h)
