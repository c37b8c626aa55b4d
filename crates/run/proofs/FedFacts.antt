-- What is taken of a piece, as facts with names: how much, where the run stands then, what the buffer holds, and why it stopped where it did.
use Rattle.std.proofs.Common.{◌≡◌, refl, sym, ap, subst, ◌∙◌, Bool, true, false, List, [], ◌++◌, ℕ, zero, suc, ◌+◌, ◌≤◌, ◌<◌, add-zero, add_assoc, arith, ltb, length, take, drop, length-append, length-drop, take-append-drop, take-add, drop-drop, ltb-true, ltb-false}
use Rattle.below.proofs.Tests.{clash}
use Rattle.text.specs.Lines.{line_feed, until, lines}
use Rattle.text.proofs.Parted.{whole}
use Rattle.plan.specs.declared.Plan.{Plan}
use Rattle.plan.specs.declared.CeiledPlan.{CeiledPlan}
use Rattle.line.specs.Filled.{has_room, out_after}
use Rattle.run.specs.declared.stream.Stream.{Stream}
use Rattle.run.specs.declared.stream.Fed.{Fed}
use Rattle.run.specs.Standing.{Stands}
use Rattle.run.specs.Stream.{At, fed, fed_printed}
use Rattle.run.specs.Fed.{Taken, at_of, taken_of, nothing, behind, lines_taken, piece_taken, first_line}
use Rattle.run.proofs.KeptBytes.{take_length_take, none_of}
use Rattle.run.proofs.Going.{fed_append, printed_append}
use Rattle.run.proofs.TakenLines.{room_quiet, out_quiet}
use Rattle.run.proofs.WholeLines.{printed_inside}
use Rattle.run.proofs.FirstLines.{first_whole, first_some, first_within, lines_first, fed_stands}
use Rattle.run.proofs.LineLoop.{lines_room, lines_none}
use Rattle.run.proofs.OutTwice.{room_twice, out_twice}

-- the next line is whole in what is left of the piece, and its printed line has no room
pub record Stuck (p : Plan) (x : At) (rest out : List ℕ) (fill : ℕ) : Type 0 where
  pub feed_there : until line_feed rest < length rest
  pub no_room : has_room out fill (fed_printed p x (first_line rest)) ≡ false

pub record FedFacts (p : Plan) (x : At) (piece out : List ℕ) (fill : ℕ) (t : Taken) : Type 0 where
  pub there : t.bytes ≤ length piece
  pub stands : t.at ≡ fed p x (take t.bytes piece)
  pub room : has_room out fill (fed_printed p x (take t.bytes piece)) ≡ true
  pub filled : t.fill ≡ fill + length (fed_printed p x (take t.bytes piece))
  pub buffer : t.out ≡ out_after out fill (fed_printed p x (take t.bytes piece))
  pub rest : t.bytes < length piece → Stuck p t.at (drop t.bytes piece) t.out t.fill

module _ (p : Plan) (x : At) (piece out : List ℕ) (fill : ℕ) where
  -- nothing is taken, at the end or without room
  stopped : (0 < length piece → Stuck p x piece out fill) → FedFacts p x piece out fill (nothing x out fill)
  unfolding nothing fed fed_printed
  stopped f =
      record {
        there = omega arith;
        stands = refl;
        room = room_quiet out fill;
        filled = sym (add-zero fill);
        buffer = sym (out_quiet out fill);
        rest = f;
      }

  -- a line without room has its line feed: without one nothing would be printed
  full : 0 < length piece → has_room out fill (fed_printed p x (first_line piece)) ≡ false → Stuck p x piece out fill
  full h e = record { feed_there = go (ltb (until line_feed piece) (length piece)) refl; no_room = e }
    where
      go : (b : Bool) → ltb (until line_feed piece) (length piece) ≡ b → until line_feed piece < length piece
      go true t = ltb-true (until line_feed piece) (length piece) t
      go false t =
          let l = ltb-false (until line_feed piece) (length piece) t in
          let q = rw (first_whole piece l, printed_inside p x (whole line_feed piece l)) at e in
          absurd (clash (room_quiet out fill) q)

  -- a line more in front
  module _ (t : Taken) (r : has_room out fill (fed_printed p x (first_line piece)) ≡ true)
      (F : FedFacts p (fed p x (first_line piece)) (drop (length (first_line piece)) piece) (out_after out fill (fed_printed p x (first_line piece))) (fill + length (fed_printed p x (first_line piece))) t) where
    abbrev l : List ℕ
    l = first_line piece

    front : take (length l + t.bytes) piece ≡ l ++ take t.bytes (drop (length l) piece)
    unfolding first_line
    front = take-add (length l) t.bytes piece ∙ ap (λ (k : List ℕ). k ++ take t.bytes (drop (length l) piece)) (take_length_take (until line_feed piece + 1) piece)

    all : fed_printed p x (take (length l + t.bytes) piece) ≡ fed_printed p x l ++ fed_printed p (fed p x l) (take t.bytes (drop (length l) piece))
    all = rw front (printed_append p x l _)

    more : FedFacts p x piece out fill (behind (length l) t)
    unfolding behind
    more =
        record {
          there = omega (arith, F.there, length-drop (length l) piece, first_within piece);
          stands = F.stands ∙ sym (fed_append p x l _) ∙ sym (ap (fed p x) front);
          room = rw all (room_twice out fill _ _ r F.room);
          filled = F.filled ∙ rw (all, length-append) (add_assoc fill _ _);
          buffer = F.buffer ∙ out_twice out fill _ _ r F.room ∙ sym (ap (out_after out fill) all);
          rest = λ h. rw (← drop-drop t.bytes (length l) piece) (F.rest (omega (arith, length-drop (length l) piece)));
        }

-- a piece of at most n bytes
facts : (p : Plan) (n : ℕ) (x : At) (piece out : List ℕ) (fill : ℕ) → length piece ≤ n → FedFacts p x piece out fill (lines_taken p x (lines piece) out fill)
unfolding lines_taken lines
facts p zero x piece out fill h = rw (none_of piece (omega arith)) (stopped p x [] out fill (λ k. absurd (omega arith)))
facts p (suc n) x piece out fill h =
    go (ltb 0 (length piece)) refl (has_room out fill (fed_printed p x (first_line piece))) refl
    (facts p n (fed p x (first_line piece)) (drop (length (first_line piece)) piece) (out_after out fill (fed_printed p x (first_line piece))) (fill + length (fed_printed p x (first_line piece))))
  where
    go : (b : Bool) → ltb 0 (length piece) ≡ b → (c : Bool) → has_room out fill (fed_printed p x (first_line piece)) ≡ c
        → (length (drop (length (first_line piece)) piece) ≤ n
        → FedFacts p (fed p x (first_line piece)) (drop (length (first_line piece)) piece) (out_after out fill (fed_printed p x (first_line piece))) (fill + length (fed_printed p x (first_line piece)))
        (lines_taken p (fed p x (first_line piece)) (lines (drop (length (first_line piece)) piece)) (out_after out fill (fed_printed p x (first_line piece))) (fill + length (fed_printed p x (first_line piece)))))
        → FedFacts p x piece out fill (lines_taken p x (lines piece) out fill)
    go false e c r ih = rw (none_of piece (omega (arith, ltb-false 0 (length piece) e))) (stopped p x [] out fill (λ k. absurd (omega arith)))
    go true e true r ih =
        let s = ltb-true 0 (length piece) e in
        rw (lines_first piece s, lines_room p x (first_line piece) (lines (drop (length (first_line piece)) piece)) out fill r)
        (more p x piece out fill _ r (ih (omega (arith, length-drop (length (first_line piece)) piece, first_some piece s))))
    go true e false r ih =
        let s = ltb-true 0 (length piece) e in
        rw (lines_first piece s, lines_none p x (first_line piece) (lines (drop (length (first_line piece)) piece)) out fill r)
        (stopped p x piece out fill (λ k. full p x piece out fill k r))

pub piece_facts : (p : Plan) (x : At) (piece out : List ℕ) (fill : ℕ) → FedFacts p x piece out fill (piece_taken p x piece out fill)
unfolding piece_taken
piece_facts p x piece out fill = facts p (length piece) x piece out fill (omega arith)

-- what is left of the piece is fed on where it stopped, and prints the rest
module _ (p : Plan) (x : At) (piece out : List ℕ) (fill : ℕ) where
  abbrev t : Taken
  t = piece_taken p x piece out fill

  pub fed_on : fed p x piece ≡ fed p t.at (drop t.bytes piece)
  fed_on =
      ap (fed p x) (sym (take-append-drop t.bytes piece))
      ∙ fed_append p x (take t.bytes piece) (drop t.bytes piece)
      ∙ ap (λ (y : At). fed p y (drop t.bytes piece)) (sym (piece_facts p x piece out fill).stands)

  pub printed_on : fed_printed p x piece ≡ fed_printed p x (take t.bytes piece) ++ fed_printed p t.at (drop t.bytes piece)
  printed_on =
      ap (fed_printed p x) (sym (take-append-drop t.bytes piece))
      ∙ printed_append p x (take t.bytes piece) (drop t.bytes piece)
      ∙ ap (λ (y : At). fed_printed p x (take t.bytes piece) ++ fed_printed p y (drop t.bytes piece)) (sym (piece_facts p x piece out fill).stands)

  -- a legal state stays legal: what came back may be fed again
  pub piece_stands : (c : CeiledPlan) → c.plan ≡ p → (s : Stream) (r : Fed) (after : List ℕ) → taken_of s r after ≡ t → Stands c x.state → Stands c s.state
  unfolding taken_of at_of
  piece_stands c g s r after e S =
      subst (λ (y : At). Stands c y.state) (sym (ap (λ (u : Taken). u.at) e ∙ (piece_facts p x piece out fill).stands ∙ ap (λ (q : Plan). fed q x (take t.bytes piece)) (sym g))) (fed_stands c x (take t.bytes piece) S)
