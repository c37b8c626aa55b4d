-- "The run program": in the library each line is written into the unfilled rest of the output buffer.
use Rattle.std.specs.Prelude.{Bool, true, false, List, ◌++◌, ℕ, ◌+◌, leb, length, take, drop}
use Rattle.std.specs.Prelude.{Option, Some, None}

-- 33 exactly when the line is longer than the rest, which is empty if the fill passes the end
unfoldable pub has_room : List ℕ → ℕ → List ℕ → Bool
has_room out fill line = leb (length line) (length (drop fill out))

-- the new fill, if there is room
unfoldable pub fill_after : List ℕ → ℕ → List ℕ → Option ℕ
fill_after out fill line = elim (has_room out fill line) [ true ↦ Some (fill + length line) | false ↦ None ]

-- the buffer then: bytes outside the line stay
unfoldable pub out_after : List ℕ → ℕ → List ℕ → List ℕ
out_after out fill line = elim (has_room out fill line) [ true ↦ take fill out ++ (line ++ drop (fill + length line) out) | false ↦ out ]

-- the number of the answer: 0 and the new fill, or 33
abbrev pub filled_number : Option ℕ → ℕ
filled_number (Some fill) = 0
filled_number None = 33
