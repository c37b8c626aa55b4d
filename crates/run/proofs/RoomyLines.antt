-- Lines where the buffer has room for any: such a line is put, and the loop over them goes on behind it.
use Rattle.std.proofs.Common.{◌≡◌, ℕ, ◌+◌, ◌≤◌, ◌<◌, true, List, length, drop, length-drop, refl, sym, ap, ◌∙◌, arith, le-leb}
use Rattle.std.specs.Prelude.{Option, Some, unwrap_or}
use Rattle.text.specs.Lines.{line_feed, until}
use Rattle.plan.specs.declared.Plan.{Plan}
use Rattle.plan.specs.declared.CeiledPlan.{CeiledPlan}
use Rattle.state.specs.declared.State.{State}
use Rattle.line.specs.Printed.{printed}
use Rattle.line.specs.Filled.{has_room, fill_after}
use Rattle.line.specs.Run.{most_lines, line_gives}
use Rattle.run.specs.declared.kept.Kept.{Kept}
use Rattle.run.specs.declared.stream.Stream.{Stream}
use Rattle.run.specs.Lined.{LinePut}
use Rattle.run.specs.Stream.{At, is_going, fed, fed_printed}
use Rattle.run.specs.Fed.{kept_of, at_of, Put, from_place, first_line, line_start}
use Rattle.run.proofs.KeptBytes.{none_of}
use Rattle.run.specs.Standing.{Stands}
use Rattle.run.proofs.LineSteps.{line_stands}
use Rattle.run.proofs.TakenLines.{text, put_as, answer_room}
use Rattle.run.proofs.FirstLines.{first_length, first_ended}
use Rattle.run.proofs.WholeLines.{end_there}
use Rattle.run.proofs.LineLoop.{place_on}

module _ (out : List ℕ) (fill : ℕ) (t : List ℕ) where
  pub fits : fill + length t ≤ length out → has_room out fill t ≡ true
  unfolding has_room
  fits h = le-leb (length t) (length (drop fill out)) (omega (arith, length-drop fill out))

  -- a text of at most 128 bytes has room, so that a fill comes back
  pub roomy : {r : Option ℕ} {m : ℕ} → length t ≤ 128 → fill + 128 ≤ length out → r ≡ fill_after out fill t → m ≡ unwrap_or r fill
      → (r ≡ Some m) × (m ≤ length out)
  unfolding fill_after
  roomy {r} {m} l h e f =
      let q : r ≡ Some (fill + length t) = e ∙ rw (fill_after, fits (omega arith)) in
      let k : m ≡ fill + length t = rw q at f in
      (q ∙ ap Some (sym k), omega arith)

-- no byte is kept
pub at_start : (s : Stream) → length (kept_of s.kept) ≡ 0 → at_of s ≡ line_start s.state s.number
unfolding at_of line_start
at_start s h = ap (λ (k : List ℕ). record { state = s.state; number = s.number; kept = k }) (none_of (kept_of s.kept) h)

-- the next line feed lies in the piece: where the line ends
module _ (piece : List ℕ) (at end : ℕ) (found : end ≡ at + until line_feed (drop at piece)) (within : end < length piece) where
  pub feed_there : until line_feed (drop at piece) < length (drop at piece)
  feed_there = rw length-drop (omega arith)

  pub line_ends : end + 1 ≡ at + length (first_line (drop at piece))
  line_ends = omega (arith, first_length (drop at piece) feed_there)

-- a whole line that lies in the piece was put
module _ (p : Plan) (s : State) (n : ℕ) (piece : List ℕ) (at : ℕ) (out : List ℕ) (fill : ℕ) (going : n ≤ most_lines) (feed : until line_feed (drop at piece) < length (drop at piece))
    {next : State} {end : ℕ} {after : List ℕ} (w : LinePut p s n (first_line (drop at piece)) out fill next end after) where
  abbrev x : At
  x = line_start s n

  abbrev l : List ℕ
  l = first_line (drop at piece)

  back_is : end ≤ length out → Put x (fed p x l) (fed_printed p x l) out fill (Some end) (line_start next (n + 1)) after
  unfolding line_start is_going text
  back_is h =
      let e = end_there p x l (first_ended (drop at piece) feed) refl in
      put_as e.0 e.1 (answer_room p x l out fill (le-leb n most_lines going) (fits out fill (printed n (line_gives p s l)) (omega (arith, w.filled))) w)

  place_line : end ≤ length out → from_place p (line_start next (n + 1)) piece (at + length l) after end ≡ from_place p x piece at out fill
  place_line h = place_on p x piece at out fill (omega arith) (back_is h)

  -- the same of a stream that keeps no byte
  pub place_put : (k : Kept) → length (kept_of k) ≡ 0 → end ≤ length out
      → from_place p (at_of (record { state = next; number = n + 1; kept = k })) piece (at + length l) after end
      ≡ from_place p (at_of (record { state = s; number = n; kept = k })) piece at out fill
  place_put k z h = rw (at_start (record { state = next; number = n + 1; kept = k }) z, at_start (record { state = s; number = n; kept = k }) z) (place_line h)

-- a legal state stays legal
pub put_stands : (c : CeiledPlan) (s : State) (n : ℕ) {line out : List ℕ} {fill : ℕ} {next : State} {end : ℕ} {after : List ℕ}
    → LinePut c.plan s n line out fill next end after → Stands c s → Stands c next
put_stands c s n {line} w S = rw w.state (line_stands c s S line)
