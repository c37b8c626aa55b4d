-- The plan of an accepted text is an accepted plan: its tables are of their lengths, and its entries are small.
use Rattle.std.proofs.Common.{◌≡◌, refl, true, List, [], ◌∷◌, ◌++◌, ℕ, zero, suc, ◌≤◌, ◌<◌, le_of_lt, arith, length, get_or, take, take-suc, Option, Some, None, Ok}
use lib.ListN.{get_or-map}
use lib.Seq.{take-length}
use Rattle.text.specs.Lines.{lines, body}
use Rattle.plan.specs.declared.Plan.{Plan}
use Rattle.plan.specs.Accepted.{accepted}
use Rattle.reader.specs.declared.Line.{Line}
use Rattle.reader.specs.Line.{line_of, kind_of}
use Rattle.reader.specs.Reading.{empty_plan, reading}
use Rattle.exactly.specs.Listed.{lines_of, line_at, count_of, Condition, LineMeets, plan_after, plan_in, Meets}
use Rattle.exactly.proofs.PlanShape.{Shaped}
use Rattle.exactly.proofs.ListedTied.{kind_said, Tied}
use Rattle.exactly.proofs.ListedPairs.{tied_empty, tied_line}
use Rattle.exactly.proofs.ListedJudged.{plan_after_line}
use Rattle.exactly.proofs.Listed.{accepted_meets, accepted_plan}
use Rattle.exactly.proofs.SoundPlan.{Sound, sound_accepted}
use Rattle.exactly.proofs.SoundFacts.{Ranged, sound_ranged}
use Rattle.exactly.proofs.SoundLines.{sound_empty, sound_line}
use Rattle.exactly.proofs.SoundKinds.{kind_of_line}

-- the plan of some lines that meet their conditions
record Built (ls : List (Option Line)) : Type 0 where
  last : ℕ
  tied : Tied ls last (plan_after empty_plan ls)
  sound : Sound (plan_after empty_plan ls)

built_line : (ls : List (Option Line)) (l : Option Line) → Built ls → ((c : ℕ) → Condition c ls l) → kind_said l ≤ 1 → Built (ls ++ (l ∷ []))
built_line ls l b c k = record {
  last = kind_of l;
  tied = rw (plan_after_line empty_plan ls l) (tied_line ls b.last (plan_after empty_plan ls) l b.tied c);
  sound = rw (plan_after_line empty_plan ls l) (sound_line ls b.last (plan_after empty_plan ls) l b.tied c k b.sound);
}

module _ (all : List (Option Line)) (each : (i : ℕ) → i < length all → LineMeets all i) (kinds : (i : ℕ) → kind_said (line_at all i) ≤ 1) where
  built_next : (i : ℕ) → i < length all → Built (take i all) → Built (take (suc i) all)
  unfolding line_at
  built_next i h b = rw (take-suc all i None h) (built_line (take i all) (line_at all i) b (each i h) (kinds i))

  built_at : (i : ℕ) → i ≤ length all → Built (take i all)
  unfolding plan_after
  built_at zero h = record { last = 0; tied = tied_empty; sound = sound_empty }
  built_at (suc i) h = built_next i h (built_at i (le_of_lt h))

  built : Built all
  built = rw (take-length all) at (built_at (length all) (omega arith))

empty_line : line_of [] ≡ None
unfolding line_of body
empty_line = refl

-- each line of a text was read from bytes
kinds_of_text : (text : List ℕ) (i : ℕ) → kind_said (line_at (lines_of text) i) ≤ 1
unfolding lines_of line_at
kinds_of_text text i = rw (← empty_line, get_or-map line_of (lines text) i []) (kind_of_line (get_or (lines text) i []))

module _ (text : List ℕ) {p : Plan} (e : reading text ≡ Ok p) where
  meets : Meets text
  meets = accepted_meets text e

  all_built : Built (lines_of text)
  all_built = built (lines_of text) meets.each (kinds_of_text text)

  pub read_sound : Sound p
  unfolding plan_in
  read_sound = rw (accepted_plan text e) all_built.sound

  pub read_shaped : Shaped p
  read_shaped = read_sound.shaped

  pub read_ranged : Ranged p
  read_ranged = sound_ranged p read_sound

  count : (plan_in text).subsystems ≡ count_of 0 (lines_of text)
  unfolding plan_in
  count = all_built.tied.tables.subsystems_are

  pub read_accepted : accepted p ≡ true
  unfolding plan_in
  read_accepted =
      rw (accepted_plan text e)
      (sound_accepted (plan_in text) all_built.sound (omega (arith, meets.some_subsystem, count)) (λ s h. meets.margins s (omega (arith, count))))
