-- A row of digits of any length, leading zeros or not: what is left of a number once its length and its first digit are judged.
use Rattle.std.specs.Prelude.{true, false, List, ℕ}
use Rattle.std.specs.Prelude.{Option, Some, None}
use Rattle.text.specs.Numbers.{digits, worth}

-- the number that a row of digits writes behind n
unfoldable pub behind : List ℕ → ℕ → Option ℕ
behind f n = elim (digits f) [ true ↦ Some (worth f n) | false ↦ None ]
