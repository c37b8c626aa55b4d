-- "The run program": lines written one behind the other, as far as the buffer goes.
use Rattle.std.specs.Prelude.{Bool, true, false, List, [], ◌∷◌, ◌++◌, ℕ, ◌+◌, length, Result, Ok, Err}
use Rattle.line.specs.Filled.{has_room, out_after}
use Rattle.run.specs.declared.Full.{Full}

-- the fill behind the last line; or behind the last that has room, if that was not the last of all
unfoldable pub as_far : List (List ℕ) → List ℕ → ℕ → Result ℕ Full
as_far [] out fill = Ok fill
as_far (l ∷ ls) out fill =
    elim (has_room out fill l) [ true ↦ as_far ls (out_after out fill l) (fill + length l) | false ↦ Err (record { fill = fill }) ]

-- the buffer then
unfoldable pub as_far_out : List (List ℕ) → List ℕ → ℕ → List ℕ
as_far_out [] out fill = out
as_far_out (l ∷ ls) out fill = elim (has_room out fill l) [ true ↦ as_far_out ls (out_after out fill l) (fill + length l) | false ↦ out ]

-- the fill behind the last line that has room
abbrev pub fill_of : Result ℕ Full → ℕ
fill_of (Ok fill) = fill
fill_of (Err full) = full.fill

-- that was the last of all
abbrev pub is_whole : Result ℕ Full → Bool
is_whole (Ok fill) = true
is_whole (Err full) = false

-- lines as one text
unfoldable pub in_one : List (List ℕ) → List ℕ
in_one [] = []
in_one (l ∷ ls) = l ++ in_one ls
