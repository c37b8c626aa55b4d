-- How a line is composed: from its last byte to its first, each piece in front of what stands already.
use Rattle.std.specs.Prelude.{Bool, true, false, List, [], ◌∷◌, ◌++◌, ℕ}
use Rattle.text.specs.Bytes.{bytes}
use Rattle.text.specs.Numbers.{decimal}
use Rattle.line.specs.Printed.{space}

-- a field and the space behind it
unfoldable pub parted : List ℕ → List ℕ
parted f = f ++ (space ∷ [])

-- a row, and a comma where others follow
unfoldable pub joined : ℕ → Bool → List ℕ
joined k others = elim others [ true ↦ decimal k ++ bytes "," | false ↦ decimal k ]
