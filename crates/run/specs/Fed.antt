-- "The run program": what a piece of an event file gives, as far as the buffer goes. Its lines are taken one after the other, up to the first whose
-- printed line has no room: the rest of the piece is fed again once the buffer was emptied.
use Rattle.std.specs.Prelude.{◌≡◌, true, false, List, [], ◌∷◌, ℕ, ◌+◌, ◌≤◌, length, take, drop, Option}
use Rattle.text.specs.Lines.{line_feed, until, lines}
use Rattle.plan.specs.declared.Plan.{Plan}
use Rattle.state.specs.declared.State.{State}
use Rattle.line.specs.Filled.{has_room, fill_after, out_after}
use Rattle.run.specs.declared.kept.Kept.{Kept}
use Rattle.run.specs.declared.stream.Stream.{Stream}
use Rattle.run.specs.declared.stream.Fed.{Fed}
use Rattle.run.specs.Stream.{At, fed, fed_printed}

-- the bytes that are kept
unfoldable pub kept_of : Kept → List ℕ
kept_of k = take k.length k.bytes

-- where a stream stands
unfoldable pub at_of : Stream → At
at_of s = record { state = s.state; number = s.number; kept = kept_of s.kept }

-- what was taken of a piece: where the run stands then, how many bytes, the fill of the buffer and the buffer
pub record Taken : Type 0 where
  pub at : At
  pub bytes : ℕ
  pub fill : ℕ
  pub out : List ℕ

-- what came back, with the stream and the buffer
unfoldable pub taken_of : Stream → Fed → List ℕ → Taken
taken_of s r out = record { at = at_of s; bytes = r.taken; fill = r.fill; out = out }

-- whatever plan is lent: no more than n bytes are taken, and a fill within a buffer of some room stays within it
pub record Within (n room fill : ℕ) (r : Fed) : Type 0 where
  pub taken : r.taken ≤ n
  pub filled : fill ≤ room → r.fill ≤ room

-- a text that leads from x to y is put behind the fill, if it has room: what came back, where the run stands then, and the buffer
pub record Put (x y : At) (t out : List ℕ) (fill : ℕ) (r : Option ℕ) (z : At) (after : List ℕ) : Type 0 where
  pub filled : r ≡ fill_after out fill t
  pub stands : z ≡ elim (has_room out fill t) [ true ↦ y | false ↦ x ]
  pub written : after ≡ out_after out fill t

-- nothing was taken
unfoldable pub nothing : At → List ℕ → ℕ → Taken
nothing x out fill = record { at = x; bytes = 0; fill = fill; out = out }

-- n bytes were taken before
unfoldable pub behind : ℕ → Taken → Taken
behind n t = record { at = t.at; bytes = n + t.bytes; fill = t.fill; out = t.out }

-- lines one after the other, up to the first that has no room
unfoldable pub lines_taken : Plan → At → List (List ℕ) → List ℕ → ℕ → Taken
lines_taken p x [] out fill = nothing x out fill
lines_taken p x (l ∷ ls) out fill =
    elim (has_room out fill (fed_printed p x l)) [
      | true ↦ behind (length l) (lines_taken p (fed p x l) ls (out_after out fill (fed_printed p x l)) (fill + length (fed_printed p x l)))
      | false ↦ nothing x out fill
    ]

-- what is left of a piece from a place on
unfoldable pub from_place : Plan → At → List ℕ → ℕ → List ℕ → ℕ → Taken
from_place p x piece at out fill = behind at (lines_taken p x (lines (drop at piece)) out fill)

-- a piece, line by line
unfoldable pub piece_taken : Plan → At → List ℕ → List ℕ → ℕ → Taken
piece_taken p x piece out fill = lines_taken p x (lines piece) out fill

-- the first line of some bytes; all of them if they have no line feed
unfoldable pub first_line : List ℕ → List ℕ
first_line bs = take (until line_feed bs + 1) bs

-- where a run stands before a line
unfoldable pub line_start : State → ℕ → At
line_start s n = record { state = s; number = n; kept = [] }

-- where a run stands with a line that is whole
unfoldable pub whole_line : At → List ℕ → At
whole_line x line = record { state = x.state; number = x.number; kept = line }
