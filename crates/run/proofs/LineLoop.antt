-- The loop over the lines of a piece: what one turn changes, and where it stops.
use Rattle.std.proofs.Common.{◌≡◌, sym, ap, ◌∙◌, true, false, List, ◌∷◌, ℕ, ◌+◌, ◌≤◌, zero-add, add-zero, add_assoc, length, drop, drop_of_length-le, drop-drop}
use Rattle.text.specs.Lines.{lines}
use Rattle.plan.specs.declared.Plan.{Plan}
use Rattle.plan.specs.declared.CeiledPlan.{CeiledPlan}
use Rattle.std.specs.Prelude.{Some, None}
use Rattle.line.specs.Filled.{has_room, out_after}
use Rattle.run.specs.Stream.{At, fed, fed_printed}
use Rattle.run.specs.declared.stream.Stream.{Stream}
use Rattle.run.specs.Fed.{at_of, Taken, Put, nothing, behind, lines_taken, from_place, piece_taken, first_line}
use Rattle.run.proofs.TakenLines.{was_put, was_full}
use Rattle.run.specs.Standing.{Stands}
use Rattle.run.proofs.FirstLines.{lines_first, fed_stands}

-- lines taken, by the room of the first
module _ (p : Plan) (x : At) (l : List ℕ) (ls : List (List ℕ)) (out : List ℕ) (fill : ℕ) where
  pub lines_room : has_room out fill (fed_printed p x l) ≡ true
      → lines_taken p x (l ∷ ls) out fill ≡ behind (length l) (lines_taken p (fed p x l) ls (out_after out fill (fed_printed p x l)) (fill + length (fed_printed p x l)))
  unfolding lines_taken
  lines_room e = rw (lines_taken, e)

  pub lines_none : has_room out fill (fed_printed p x l) ≡ false → lines_taken p x (l ∷ ls) out fill ≡ nothing x out fill
  unfolding lines_taken
  lines_none e = rw (lines_taken, e)

-- bytes taken before
behind_again : (m n : ℕ) (t : Taken) → behind m (behind n t) ≡ behind (m + n) t
unfolding behind
behind_again m n t = ap (λ (k : ℕ). record { at = t.at; bytes = k; fill = t.fill; out = t.out }) (sym (add_assoc m n t.bytes))

pub behind_none : (t : Taken) → behind 0 t ≡ t
unfolding behind
behind_none t = ap (λ (k : ℕ). record { at = t.at; bytes = k; fill = t.fill; out = t.out }) (zero-add t.bytes)

-- what is left of a piece from its start on is all of it
pub place_start : (p : Plan) (x : At) (piece out : List ℕ) (fill : ℕ) → from_place p x piece 0 out fill ≡ piece_taken p x piece out fill
unfolding from_place piece_taken
place_start p x piece out fill = behind_none (lines_taken p x (lines piece) out fill)

module _ (p : Plan) (x : At) (piece : List ℕ) (at : ℕ) (out : List ℕ) (fill : ℕ) where
  abbrev Here : Taken
  Here = record { at = x; bytes = at; fill = fill; out = out }

  here_is : behind at (nothing x out fill) ≡ Here
  unfolding behind nothing
  here_is = ap (λ (k : ℕ). record { at = x; bytes = k; fill = fill; out = out }) (add-zero at)

  -- at the end
  pub place_end : length piece ≤ at → Here ≡ from_place p x piece at out fill
  unfolding from_place lines_taken lines
  place_end h = sym (rw (drop_of_length-le piece {i = at} h) here_is)

  -- the next line was put, or had no room
  abbrev l : List ℕ
  l = first_line (drop at piece)

  module _ (some : 1 ≤ length (drop at piece)) {z : At} {after : List ℕ} where
    pub place_on : {n : ℕ} → Put x (fed p x l) (fed_printed p x l) out fill (Some n) z after
        → from_place p z piece (at + length l) after n ≡ from_place p x piece at out fill
    unfolding from_place
    place_on w =
        let h = was_put x (fed p x l) (fed_printed p x l) out fill w in
        rw (h.1, h.2, h.3)
        (sym
        (ap (λ ls. behind at (lines_taken p x ls out fill)) (lines_first (drop at piece) some)
        ∙ ap (behind at) (lines_room p x l _ out fill h.0)
        ∙ behind_again at (length l) _
        ∙ rw (drop-drop (length l) at piece)))

    pub place_stop : Put x (fed p x l) (fed_printed p x l) out fill None z after
        → ◌≡◌ {A = Taken} (record { at = z; bytes = at; fill = fill; out = after }) (from_place p x piece at out fill)
    unfolding from_place
    place_stop w =
        let h = was_full x (fed p x l) (fed_printed p x l) out fill w in
        rw (h.1, h.2)
        (sym here_is
        ∙ sym (ap (behind at) (lines_none p x l (lines (drop (length l) (drop at piece))) out fill h.0))
        ∙ sym (ap (λ ls. behind at (lines_taken p x ls out fill)) (lines_first (drop at piece) some)))

-- a legal state stays legal
pub turn_stands : (c : CeiledPlan) (x : At) (l t out : List ℕ) (fill : ℕ) {n : ℕ} (s : Stream) {after : List ℕ}
    → Put x (fed c.plan x l) t out fill (Some n) (at_of s) after → Stands c x.state → Stands c s.state
unfolding at_of
turn_stands c x l t out fill s w S = rw (ap (λ (y : At). y.state) (was_put x (fed c.plan x l) t out fill w).2) (fed_stands c x l S)
