-- "The run program": an event file that comes in pieces. Of a line that is not whole yet only the first 20 bytes are kept: no event line is longer than
-- 20 bytes, and 20 bytes without a line feed are no event either.
use Rattle.std.specs.Prelude.{Bool, true, false, List, [], ◌∷◌, ◌++◌, ℕ, ◌+◌, leb, eqb, take}
use Rattle.text.specs.Lines.{line_feed}
use Rattle.plan.specs.declared.Plan.{Plan}
use Rattle.state.specs.declared.State.{State}
use Rattle.state.specs.Fresh.{fresh}
use Rattle.line.specs.Printed.{printed}
use Rattle.line.specs.Run.{most_lines, line_gives}

-- where a run stands: its state, the number of its next line, and the kept bytes of that line
pub record At : Type 0 where
  pub state : State
  pub number : ℕ
  pub kept : List ℕ

-- the most that is kept of a line
abbrev pub most_kept : ℕ
most_kept = 20

-- before the first byte
unfoldable pub start : Plan → At
start p = record { state = fresh p; number = 1; kept = [] }

-- bytes of one line behind those that are kept
unfoldable pub keeping : At → List ℕ → At
keeping x bs = record { state = x.state; number = x.number; kept = take most_kept (x.kept ++ bs) }

-- at most 9,999,999 lines, then it stops
unfoldable pub is_going : At → Bool
is_going x = leb x.number most_lines

-- the line that is kept is whole: it is answered, and the next one begins
unfoldable pub line_done : Plan → At → At
line_done p x =
    elim (is_going x) [
      | true ↦ record { state = (line_gives p x.state x.kept).state; number = x.number + 1; kept = [] }
      | false ↦ record { state = x.state; number = x.number; kept = [] }
    ]

-- what is printed of it
unfoldable pub line_printed : Plan → At → List ℕ
line_printed p x = elim (is_going x) [ true ↦ printed x.number (line_gives p x.state x.kept) | false ↦ [] ]

-- one byte more
unfoldable pub fed_byte : Plan → At → ℕ → At
fed_byte p x b = elim (eqb b line_feed) [ true ↦ line_done p (keeping x (b ∷ [])) | false ↦ keeping x (b ∷ []) ]

-- what is printed at it
unfoldable pub byte_printed : Plan → At → ℕ → List ℕ
byte_printed p x b = elim (eqb b line_feed) [ true ↦ line_printed p (keeping x (b ∷ [])) | false ↦ [] ]

-- one piece more
unfoldable pub fed : Plan → At → List ℕ → At
fed p x [] = x
fed p x (b ∷ bs) = fed p (fed_byte p x b) bs

-- what is printed at it
unfoldable pub fed_printed : Plan → At → List ℕ → List ℕ
fed_printed p x [] = []
fed_printed p x (b ∷ bs) = byte_printed p x b ++ fed_printed p (fed_byte p x b) bs

-- at the end of the file: a last line without its line feed
unfoldable pub end_printed : Plan → At → List ℕ
end_printed p x = elim x.kept [ [] ↦ [] | b ∷ bs ↦ line_printed p x ]

-- what is printed of a file that comes in these pieces
unfoldable pub pieces_printed : Plan → At → List (List ℕ) → List ℕ
pieces_printed p x [] = end_printed p x
pieces_printed p x (b ∷ bs) = fed_printed p x b ++ pieces_printed p (fed p x b) bs
