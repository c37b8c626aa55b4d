-- The loop over the lines of an event text: what one turn changes, and where it stops. And that the lines of a run, as one text, are its printed text.
use mathlib.Core.Path.{◌≡◌, refl, sym, ap, ◌∙◌}
use mathlib.Core.List.{List, [], ◌∷◌, ◌++◌, append-nil}
use Prim.Native.Nat.{ℕ, zero, suc, ◌+◌, ◌-◌, ◌≤◌, ◌<◌}
use native.Mathlib.Omega.{arith}
use lib.ListN.{length, take, drop, drop_of_length-le}
use lib.Seq.{take-nil, drop-drop}
use Rattle.text.specs.Lines.{line_feed, until, lines}
use Rattle.plan.specs.declared.Plan.{Plan}
use Rattle.plan.specs.declared.CeiledPlan.{CeiledPlan}
use Rattle.reader.specs.declared.refusals.Refusal.{Refusal}
use Rattle.reader.specs.Numbers.{number, beside}
use Rattle.reader.specs.Reading.{reading}
use Rattle.state.specs.declared.State.{State}
use Rattle.state.specs.Fresh.{fresh}
use Rattle.step.specs.declared.Outcome.{Outcome}
use Rattle.std.specs.Prelude.{Option, Some, None, Result, Ok, Err}
use Rattle.line.specs.Printed.{printed, printed_refusal}
use Rattle.line.specs.Run.{most_lines, line_gives, outcomes, printed_from, printed_run, run}
use Rattle.run.specs.declared.Lined.{Lined}
use Rattle.run.specs.Lined.{lined, lined_state, lined_out}
use Rattle.run.specs.AsFar.{in_one}
use Rattle.run.specs.Fed.{first_line}
use Rattle.run.specs.Running.{printed_lines, run_lines}
use Rattle.run.proofs.AsFarLaws.{Leads, Ends, leads_start, leads_on, leads_out}
use Rattle.run.proofs.KeptBytes.{take_length_take}
use Rattle.run.specs.Standing.{Stands}
use Rattle.run.proofs.LineSteps.{line_stands}
use Rattle.run.proofs.TakenLines.{text, fill_room, fill_none, step_room, step_none}
use Rattle.run.proofs.FirstLines.{lines_first}

-- the printed lines of an event text from line n on
unfoldable pub lines_left : Plan → State → ℕ → List ℕ → List (List ℕ)
lines_left p s n t = printed_lines n (outcomes p s (take (suc most_lines - n) (lines t)))

-- from the first line on
pub left_start : (p : Plan) (s : State) (t out : List ℕ) (fill : ℕ)
    → let all = printed_lines 1 (outcomes p s (take most_lines (lines t))) in
    Leads (lines_left p s 1 t) out fill all out fill
unfolding lines_left
left_start p s t out fill = rw e (leads_start _ out fill)
  where
    e : printed_lines 1 (outcomes p s (take (suc most_lines - 1) (lines t))) ≡ printed_lines 1 (outcomes p s (take most_lines (lines t)))
    e = ap (λ (k : ℕ). printed_lines 1 (outcomes p s (take k (lines t)))) {x = suc most_lines - 1} {y = most_lines} (omega arith)

module _ (p : Plan) (s : State) (n : ℕ) where
  -- no bytes are left, or no more lines are answered
  pub left_end : (t : List ℕ) (at : ℕ) → length t ≤ at → lines_left p s n (drop at t) ≡ []
  unfolding lines_left printed_lines outcomes lines
  left_end t at h =
      rw (drop_of_length-le t {i = at} h) (ap (λ (ls : List (List ℕ)). printed_lines n (outcomes p s ls)) (take-nil (suc most_lines - n)))

  pub left_over : (t : List ℕ) → most_lines < n → lines_left p s n t ≡ []
  unfolding lines_left printed_lines outcomes
  left_over t h = ap (λ (k : ℕ). printed_lines n (outcomes p s (take k (lines t)))) {x = suc most_lines - n} {y = zero} (omega arith)

  -- the first line and those behind it
  left_next : (t : List ℕ) → 1 ≤ length t → n ≤ most_lines
      → lines_left p s n t ≡ printed n (line_gives p s (first_line t)) ∷ lines_left p (line_gives p s (first_line t)).state (n + 1) (drop (length (first_line t)) t)
  unfolding lines_left printed_lines outcomes
  left_next t h g =
      ap (λ (ls : List (List ℕ)). printed_lines n (outcomes p s (take (suc most_lines - n) ls))) (lines_first t h)
      ∙ ap (λ (k : ℕ). printed_lines n (outcomes p s (take k (first_line t ∷ lines (drop (length (first_line t)) t))))) {x = suc most_lines - n} {y = suc (suc most_lines - (n + 1))} (omega arith)

  -- one turn
  module _ (t : List ℕ) (at : ℕ) (out : List ℕ) (fill : ℕ) (some : 1 ≤ length (drop at t)) (g : n ≤ most_lines)
      {all : List (List ℕ)} {out₀ : List ℕ} {fill₀ : ℕ} (w : Leads (lines_left p s n (drop at t)) out fill all out₀ fill₀) where
    abbrev line : List ℕ
    line = first_line (drop at t)

    left : Leads (printed n (line_gives p s line) ∷ lines_left p (line_gives p s line).state (n + 1) (drop (at + length line) t)) out fill all out₀ fill₀
    left = rw (left_next (drop at t) some g, drop-drop (length line) at t) at w

    -- the line had room: those behind it are left
    pub turn_room : {next : State} {after : List ℕ} {l : Lined} → Some l ≡ lined p s n line out fill → next ≡ lined_state p s n line out fill → after ≡ lined_out p s n line out fill
        → Leads (lines_left p next (n + 1) (drop (at + length line) t)) after l.fill all out₀ fill₀
    unfolding text
    turn_room e f h =
        let r = step_room p s n line out fill e f h in
        rw r.1.state (leads_on left (rw r.1.filled (sym (fill_room out fill _ r.0))) r.1.written)

    -- it had none: the run ends here
    pub turn_none : {next : State} {after : List ℕ} → ◌≡◌ {A = Option Lined} None (lined p s n line out fill) → next ≡ lined_state p s n line out fill → after ≡ lined_out p s n line out fill
        → Ends (Err (record { fill = fill })) after all out₀ fill₀
    unfolding text lined_out
    turn_none e f h = leads_out left (sym (fill_none out fill _ (step_none p s n line out fill e f h).0)) h

-- a legal state stays legal
pub turn_stands : (c : CeiledPlan) (s : State) (n : ℕ) (t : List ℕ) (at : ℕ) (out : List ℕ) (fill : ℕ) {l : Lined} {next : State} {after : List ℕ}
    → Some l ≡ lined c.plan s n (first_line (drop at t)) out fill → next ≡ lined_state c.plan s n (first_line (drop at t)) out fill → after ≡ lined_out c.plan s n (first_line (drop at t)) out fill
    → Stands c s → Stands c next
turn_stands c s n t at out fill e f h S =
    rw (step_room c.plan s n (first_line (drop at t)) out fill e f h).1.state (line_stands c s S (first_line (drop at t)))

-- the first line as it is lent
pub first_lent : (t : List ℕ) (at end : ℕ) → end ≡ at + length (first_line (drop at t)) → take (end - at) (drop at t) ≡ first_line (drop at t)
unfolding first_line
first_lent t at end e =
    ap (λ (k : ℕ). take k (drop at t)) {x = end - at} {y = length (first_line (drop at t))} (omega arith) ∙ take_length_take (until line_feed (drop at t) + 1) (drop at t)

-- as one text, the printed lines are the printed text
one_printed : (n : ℕ) (os : List Outcome) → in_one (printed_lines n os) ≡ printed_from n os
unfolding in_one printed_lines printed_from
one_printed n [] = refl
one_printed n (o ∷ os) = ap (λ (t : List ℕ). printed n o ++ t) (one_printed (n + 1) os)

pub lines_run : (plan events : List ℕ) → in_one (run_lines plan events) ≡ run plan events
unfolding run_lines run printed_run in_one
lines_run plan events = go (reading plan)
  where
    go : (r : Result Plan Refusal)
        → in_one
        (elim r [
          | Ok p ↦ printed_lines 1 (outcomes p (fresh p) (take most_lines (lines events)))
          | Err e ↦ printed_refusal (number e) (beside e) ∷ []
        ])
        ≡ elim r [ Ok p ↦ printed_run p events | Err e ↦ printed_refusal (number e) (beside e) ]
    go (Ok p) = one_printed 1 _
    go (Err e) = append-nil _
