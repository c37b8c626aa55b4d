-- A buffer with 128 bytes of room takes the next line, whatever it is: no printed line is longer.
use Rattle.std.proofs.Common.{◌≡◌, refl, sym, ap, ◌∙◌, Bool, true, false, List, ℕ, ◌+◌, ◌≤◌, arith, ltb, length, drop, leb-true, ltb-true, ltb-false}
use Rattle.below.proofs.Tests.{clash}
use Rattle.text.specs.Lines.{line_feed, until}
use Rattle.text.proofs.Parted.{whole}
use Rattle.plan.specs.declared.Plan.{Plan}
use Rattle.plan.specs.Facts.{Accepted}
use Rattle.state.specs.declared.State.{State}
use Rattle.step.proofs.Numbers.{Numbers, of_answered, of_stepped}
use Rattle.step.specs.Kinds.{kind_number}
use Rattle.line.specs.declared.Event.{Event}
use Rattle.std.specs.Prelude.{Option, Some, None}
use Rattle.line.specs.Event.{event_of}
use Rattle.line.specs.Run.{most_lines, event_gives, line_gives}
use Rattle.line.proofs.Short.{printed_length}
use Rattle.run.specs.declared.stream.Stream.{Stream}
use Rattle.run.specs.declared.stream.Fed.{Fed}
use Rattle.run.specs.Stream.{At, keeping, is_going, line_printed, fed_printed}
use Rattle.run.specs.Fed.{Taken, taken_of, piece_taken, first_line}
use Rattle.run.proofs.Going.{printed_going, printed_over}
use Rattle.run.proofs.WholeLines.{printed_inside, printed_feed}
use Rattle.run.proofs.FirstLines.{first_ended, first_whole}
use Rattle.run.proofs.TakenLines.{out_quiet}
use Rattle.run.proofs.FedFacts.{FedFacts, piece_facts}
use Rattle.run.proofs.RoomyLines.{fits}

-- the numbers of what a line gives
of_event : (p : Plan) (s : State) (e : Option Event) → Numbers p (event_gives p s e)
unfolding event_gives
of_event p s (Some e) = of_stepped p s (kind_number e.kind) e.task e.resource
of_event p s None = of_answered p s 11 (omega arith)

of_line : (p : Plan) (s : State) (line : List ℕ) → Numbers p (line_gives p s line)
unfolding line_gives
of_line p s line = of_event p s (event_of line)

module _ (p : Plan) (A : Accepted p) where
  -- what a line prints
  line_short : (x : At) → length (line_printed p x) ≤ 128
  unfolding is_going
  line_short x = go (is_going x) refl
    where
      go : (b : Bool) → is_going x ≡ b → length (line_printed p x) ≤ 128
      go true g =
          let w = of_line p x.state x.kept in
          rw (printed_going p x g) (omega (arith, printed_length x.number (line_gives p x.state x.kept) (omega (arith, leb-true x.number most_lines g)) (omega (arith, w.answer)) (w.subsystem A) (w.task A)))
      go false g = rw (printed_over p x g) (omega arith)

  -- what the first line of a piece prints
  first_short : (x : At) (piece : List ℕ) → length (fed_printed p x (first_line piece)) ≤ 128
  first_short x piece = go (ltb (until line_feed piece) (length piece)) refl
    where
      go : (b : Bool) → ltb (until line_feed piece) (length piece) ≡ b → length (fed_printed p x (first_line piece)) ≤ 128
      go true t = rw (printed_feed p x (first_line piece) (first_ended piece (ltb-true _ _ t))) (line_short (keeping x (first_line piece)))
      go false t =
          let l = ltb-false (until line_feed piece) (length piece) t in
          rw (first_whole piece l, printed_inside p x (whole line_feed piece l)) (omega arith)

  -- a roomy buffer takes some of a piece
  module _ (x : At) (piece out : List ℕ) (fill : ℕ) (some : 1 ≤ length piece) (room : fill + 128 ≤ length out) where
    none_left : (t : Taken) → FedFacts p x piece out fill t → t.bytes ≡ 0 → ⊥
    unfolding fed_printed
    none_left t F z =
        let q = rw z at F.filled in
        let o = rw z at F.buffer in
        clash
        (fits t.out t.fill _ (omega (arith, q, ap length (o ∙ out_quiet out fill), first_short t.at (drop t.bytes piece))))
        (F.rest (omega arith)).no_room

    pub takes_some : (s : Stream) (f : Fed) (after : List ℕ) → taken_of s f after ≡ piece_taken p x piece out fill → f.taken ≡ 0 → ⊥
    unfolding taken_of
    takes_some s f after e z = none_left (piece_taken p x piece out fill) (piece_facts p x piece out fill) (sym (ap (λ (t : Taken). t.bytes) e) ∙ z)
