-- "The plan text", its table: a line is a letter and its fields. A malformed line is none.
use Rattle.std.specs.Prelude.{true, false, List, [], ◌∷◌, ℕ}
use Rattle.text.specs.Bytes.{bytes, same}
use Rattle.text.specs.Lines.{body, fields}
use Rattle.text.specs.Numbers.{numbers, of_one, of_two, of_three}
use Rattle.reader.specs.declared.Line.{Line}
use Rattle.reader.specs.declared.Line.TheVariants.{Subsystem, Task, Resource, Uses}
use Rattle.std.specs.Prelude.{Option, Some, None}

-- the lines that are made of numbers
abbrev pub as_subsystem : ℕ → ℕ → Option Line
as_subsystem period budget = Some (Subsystem period budget)

abbrev pub as_task : ℕ → Option Line
as_task subsystem = Some (Task subsystem)

abbrev pub as_uses : ℕ → ℕ → ℕ → Option Line
as_uses task resource length = Some (Uses task resource length)

-- made of the numbers that the fields write; none where a field writes none
unfoldable pub of_numbers : (List ℕ → Option Line) → List (List ℕ) → Option Line
of_numbers f fs = elim (numbers fs) [ None ↦ None | Some ns ↦ f ns ]

-- R: L is local, G global
unfoldable pub of_kind : List ℕ → Option Line
of_kind k = elim (same k (bytes "L")) [ true ↦ Some (Resource 0) | false ↦ elim (same k (bytes "G")) [ true ↦ Some (Resource 1) | false ↦ None ] ]

-- R has one field
unfoldable pub of_kind_field : List (List ℕ) → Option Line
of_kind_field [] = None
of_kind_field (k ∷ []) = of_kind k
of_kind_field (k ∷ f ∷ fs) = None

-- the letter, then as many fields as its line has
unfoldable pub of_fields : List (List ℕ) → Option Line
of_fields [] = None
of_fields (k ∷ fs) =
    elim (same k (bytes "S")) [
      | true ↦ of_numbers (of_two None as_subsystem) fs
      | false ↦ elim (same k (bytes "T")) [
        | true ↦ of_numbers (of_one None as_task) fs
        | false ↦ elim (same k (bytes "R")) [
          | true ↦ of_kind_field fs
          | false ↦ elim (same k (bytes "U")) [
            | true ↦ of_numbers (of_three None as_uses) fs
            | false ↦ None
          ]
        ]
      ]
    ]

-- a line with its line feed; an empty line and one without its line feed are none
unfoldable pub line_of : List ℕ → Option Line
line_of l = elim (body l) [ None ↦ None | Some b ↦ of_fields (fields b) ]

-- the place of a line's kind in the order of the kinds; a malformed line stands behind them all
unfoldable pub kind_of : Option Line → ℕ
kind_of (Some (Subsystem period budget)) = 0
kind_of (Some (Task subsystem)) = 1
kind_of (Some (Resource kind)) = 2
kind_of (Some (Uses task resource length)) = 3
kind_of None = 4
