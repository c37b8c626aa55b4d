-- "The run program": an event line is a name and exactly the numbers that its kind uses, written and parted as in the plan text.
use Rattle.std.specs.Prelude.{true, false, List, [], ◌∷◌, ℕ}
use Rattle.std.specs.Prelude.{Option, None, Some}
use Rattle.text.specs.Bytes.{bytes, same}
use Rattle.text.specs.Lines.{body, fields}
use Rattle.text.specs.Numbers.{numbers, of_none, of_one, of_two}
use Rattle.step.specs.declared.Kind.{Kind}
use Rattle.step.specs.declared.Kind.TheVariants.{Release, Lock, Unlock, End, Tick}
use Rattle.line.specs.declared.Event.{Event}

-- an event by its kind, its task row and its resource row
abbrev pub known : Kind → ℕ → ℕ → Option Event
known kind task resource = Some (record { kind = kind; task = task; resource = resource })

-- the kind of the name, with just the rows that it uses; other rows are 0 and not read
unfoldable pub of_name : List ℕ → List ℕ → Option Event
of_name name ns =
    elim (same name (bytes "release")) [
      | true ↦ of_one None (λ k. known Release k 0) ns
      | false ↦ elim (same name (bytes "lock")) [
        | true ↦ of_two None (known Lock) ns
        | false ↦ elim (same name (bytes "unlock")) [
          | true ↦ of_two None (known Unlock) ns
          | false ↦ elim (same name (bytes "end")) [
            | true ↦ of_one None (λ k. known End k 0) ns
            | false ↦ elim (same name (bytes "tick")) [
              | true ↦ of_none None (known Tick 0 0) ns
              | false ↦ None
            ]
          ]
        ]
      ]
    ]

-- the first field is the name, the others are numbers
unfoldable pub of_fields : List (List ℕ) → Option Event
of_fields [] = None
of_fields (name ∷ fs) = elim (numbers fs) [ None ↦ None | Some ns ↦ of_name name ns ]

-- a line with its line feed; an empty line and one without its line feed are malformed
unfoldable pub event_of : List ℕ → Option Event
event_of l = elim (body l) [ None ↦ None | Some b ↦ of_fields (fields b) ]
