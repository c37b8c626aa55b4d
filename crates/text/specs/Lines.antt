-- "The plan text": one record a line, fields parted by one tab, each line ended by a line feed. Event files are written the same way.
use Rattle.std.specs.Prelude.{true, false, List, [], ◌∷◌, ℕ, zero, suc, eqb}
use Rattle.std.specs.Prelude.{Option, Some, None}
use Rattle.std.specs.Option.{option_map}

-- what parts fields
abbrev pub tab : ℕ
tab = 9

-- what ends a line
abbrev pub line_feed : ℕ
line_feed = 10

-- how many bytes stand before the first b; all of them if there is none
unfoldable pub until : ℕ → List ℕ → ℕ
until b [] = zero
until b (x ∷ xs) = elim (eqb x b) [ true ↦ zero | false ↦ suc (until b xs) ]

-- a byte in front of the first piece, or as the only piece
unfoldable pub onto : ℕ → List (List ℕ) → List (List ℕ)
onto b [] = (b ∷ []) ∷ []
onto b (l ∷ ls) = (b ∷ l) ∷ ls

-- the lines of a text, each with its line feed; bytes after the last line feed are one more line, without
unfoldable pub lines : List ℕ → List (List ℕ)
lines [] = []
lines (b ∷ bs) = elim (eqb b line_feed) [ true ↦ (b ∷ []) ∷ lines bs | false ↦ onto b (lines bs) ]

-- nothing may follow the line feed
unfoldable pub empty_or_none : List ℕ → Option (List ℕ)
empty_or_none [] = Some []
empty_or_none (b ∷ bs) = None

-- what stands before the line feed, where it is the last byte and the only line feed
unfoldable pub body : List ℕ → Option (List ℕ)
body [] = None
body (b ∷ bs) = elim (eqb b line_feed) [ true ↦ empty_or_none bs | false ↦ option_map (λ l. b ∷ l) (body bs) ]

-- the fields of a line's body: what stands between its tabs
unfoldable pub fields : List ℕ → List (List ℕ)
fields [] = [] ∷ []
fields (b ∷ bs) = elim (eqb b tab) [ true ↦ [] ∷ fields bs | false ↦ onto b (fields bs) ]
