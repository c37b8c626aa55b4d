-- Laws of one event line: what its event gives, what is given back with room and without, and that a legal state stays legal.
use Rattle.std.proofs.Common.{◌≡◌, ℕ, ◌+◌, ◌≤◌, Bool, true, false, List, length, refl, sym, ap, ◌∙◌, arith}
use Rattle.std.specs.Prelude.{Option, Some, None}
use Rattle.plan.specs.declared.Plan.{Plan}
use Rattle.plan.specs.declared.CeiledPlan.{CeiledPlan}
use Rattle.state.specs.declared.State.{State}
use Rattle.step.specs.declared.Outcome.{Outcome}
use Rattle.step.specs.declared.Answer.{Answer}
use Rattle.step.specs.Events.{answered}
use Rattle.step.specs.Step.{stepped, answer_of}
use Rattle.step.specs.Kinds.{kind_number}
use Rattle.step.proofs.Stepped.{stepped_legal, stepped_sized}
use Rattle.line.specs.declared.Event.{Event}
use Rattle.line.specs.Event.{event_of}
use Rattle.line.specs.Printed.{printed, answer_line}
use Rattle.line.specs.Filled.{has_room, fill_after, out_after}
use Rattle.line.specs.Run.{event_gives, line_gives}
use Rattle.line.proofs.Spaced.{spaced_some}
use Rattle.run.specs.declared.Lined.{Lined}
use Rattle.run.specs.Standing.{Stands}
use Rattle.run.specs.Lined.{LinePut, lined_by, lined_state_by, lined, lined_state, lined_out}
use Rattle.run.proofs.AsFarLaws.{has_room_lem, has_none}

-- what a line gives, by the event that was read
pub given_event : (p : Plan) (s : State) (line : List ℕ) (e : Event) → event_of line ≡ Some e → stepped p s (kind_number e.kind) e.task e.resource ≡ line_gives p s line
unfolding line_gives event_gives
given_event p s line e f = rw f

-- a line that is no event is answered 11
pub given_none : (p : Plan) (s : State) (line : List ℕ) → event_of line ≡ None → answered p s 11 ≡ line_gives p s line
unfolding line_gives event_gives
given_none p s line f = rw f

-- a legal state stays legal
module _ (c : CeiledPlan) (s : State) (S : Stands c s) where
  event_stands : (e : Option Event) → Stands c (event_gives c.plan s e).state
  unfolding event_gives answered
  event_stands (Some e) =
      let L = S.lent in
      record {
        lent = record {
          accepted = L.accepted;
          ceilings = L.ceilings;
          legal = stepped_legal c.plan s L.accepted S.sized L.legal (kind_number e.kind) e.task e.resource;
        };
        sized = stepped_sized c.plan s L.accepted S.sized L.legal (kind_number e.kind) e.task e.resource;
      }
  event_stands None = S

  pub line_stands : (line : List ℕ) → Stands c (line_gives c.plan s line).state
  unfolding line_gives
  line_stands line = event_stands (event_of line)

-- a printed line is never empty
pub printed_some : (n : ℕ) (o : Outcome) → 1 ≤ length (printed n o)
unfolding printed answer_line
printed_some n o = spaced_some _

-- a line whose event was stepped and whose answer was printed
module _ (p : Plan) (s : State) (n : ℕ) (line out : List ℕ) (fill : ℕ) {a : Answer} {next : State} {r : Option ℕ} {after : List ℕ}
    (e : a ≡ answer_of (line_gives p s line)) (f : next ≡ (line_gives p s line).state)
    (g : (r ≡ fill_after out fill (answer_line n a.answer a.subsystem a.task a.ended)) × (after ≡ out_after out fill (answer_line n a.answer a.subsystem a.task a.ended))) where
  text_is : answer_line n a.answer a.subsystem a.task a.ended ≡ printed n (line_gives p s line)
  unfolding printed answer_of
  text_is = rw e

  filled : r ≡ fill_after out fill (printed n (line_gives p s line))
  filled = g.0 ∙ ap (fill_after out fill) text_is

  pub written : after ≡ lined_out p s n line out fill
  unfolding lined_out
  written = g.1 ∙ ap (out_after out fill) text_is

  -- it had room
  pub lined_room : {m : ℕ} → r ≡ Some m → (Some (record { answer = a.answer; fill = m }) ≡ lined p s n line out fill) × (next ≡ lined_state p s n line out fill) × (after ≡ lined_out p s n line out fill)
  unfolding lined lined_by lined_state lined_state_by answer_of
  lined_room {m} t =
      let h = has_room_lem out fill (printed n (line_gives p s line)) (sym t ∙ filled) in
      (rw (lined_by, h.0, h.1, e), rw (lined_state_by, h.0) f, written)

  -- it had none
  pub lined_none : r ≡ None → (◌≡◌ {A = Option Lined} None (lined p s n line out fill)) × (s ≡ lined_state p s n line out fill) × (after ≡ lined_out p s n line out fill)
  unfolding lined lined_by lined_state lined_state_by
  lined_none t =
      let h = has_none out fill (printed n (line_gives p s line)) (sym t ∙ filled) in
      (rw (lined_by, h), rw (lined_state_by, h), written)

  -- with room, what is given back piece by piece
  pub put_line : {m : ℕ} → r ≡ Some m → LinePut p s n line out fill next m after
  unfolding lined_out
  put_line t = record { state = f; filled = (has_room_lem out fill (printed n (line_gives p s line)) (sym t ∙ filled)).1; written = written }
