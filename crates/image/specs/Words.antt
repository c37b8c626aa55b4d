-- "Calls from C": numbers of 16 bits, little-endian.
use Rattle.std.specs.Prelude.{List, [], ◌∷◌, ◌++◌, ℕ, ◌+◌, ◌*◌, ◌/◌, ◌%◌, get_or}

-- the low byte, then the high byte
unfoldable pub word : ℕ → List ℕ
word n = n % 256 ∷ n / 256 ∷ []

-- some numbers one behind the other
unfoldable pub words : List ℕ → List ℕ
words [] = []
words (n ∷ ns) = word n ++ words ns

-- the byte that stands at a place
unfoldable pub byte_at : List ℕ → ℕ → ℕ
byte_at b at = get_or b at 0

-- the 16-bit number that stands at a place
unfoldable pub word_at : List ℕ → ℕ → ℕ
word_at b at = byte_at b at + 256 * byte_at b (at + 1)
