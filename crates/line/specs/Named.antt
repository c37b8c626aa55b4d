-- How an event line is read: its name to a kind, then the rows that the kind uses.
use Rattle.std.specs.Prelude.{true, false, List, ℕ}
use Rattle.std.specs.Prelude.{Option, None, Some}
use Rattle.text.specs.Bytes.{bytes, same}
use Rattle.text.specs.Numbers.{of_none, of_one, of_two}
use Rattle.step.specs.declared.Kind.{Kind}
use Rattle.step.specs.declared.Kind.TheVariants.{Release, Lock, Unlock, End, Tick}
use Rattle.line.specs.declared.Event.{Event}
use Rattle.line.specs.Event.{known}

-- the kind of a name, if it names one
unfoldable pub kind_of : List ℕ → Option Kind
kind_of name =
    elim (same name (bytes "release")) [
      | true ↦ Some Release
      | false ↦ elim (same name (bytes "lock")) [
        | true ↦ Some Lock
        | false ↦ elim (same name (bytes "unlock")) [
          | true ↦ Some Unlock
          | false ↦ elim (same name (bytes "end")) [ true ↦ Some End | false ↦ elim (same name (bytes "tick")) [ true ↦ Some Tick | false ↦ None ] ]
        ]
      ]
    ]

-- just the rows that the kind uses: release and end a task row, lock and unlock a task and a resource row, a tick none
unfoldable pub of_kind : Kind → List ℕ → Option Event
of_kind Release = of_one None (λ k. known Release k 0)
of_kind Lock = of_two None (known Lock)
of_kind Unlock = of_two None (known Unlock)
of_kind End = of_one None (λ k. known End k 0)
of_kind Tick = of_none None (known Tick 0 0)
