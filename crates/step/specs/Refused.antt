-- The refusals of an event at rows and their numbers, 2 to 9.
use Rattle.std.specs.Prelude.{List, [], ◌∷◌, ℕ, Option, Some, None}
use Rattle.step.specs.declared.order.Refusal.{Refusal}
use Rattle.step.specs.declared.order.Refusal.TheVariants.{NoSuchRow, NotIdle, NotRunning, NotDeclared, HoldsAlready, NotLast, StillHolding, FifthHeld}

-- the number of a refusal
abbrev pub refusal_number : Refusal → ℕ
refusal_number NoSuchRow = 2
refusal_number NotIdle = 3
refusal_number NotRunning = 4
refusal_number NotDeclared = 5
refusal_number HoldsAlready = 6
refusal_number NotLast = 7
refusal_number StillHolding = 8
refusal_number FifthHeld = 9

-- of some refusals
abbrev pub numbers_of : List Refusal → List ℕ
numbers_of [] = []
numbers_of (x ∷ xs) = refusal_number x ∷ numbers_of xs

-- of one or none: 0 is none
abbrev pub refused_number : Option Refusal → ℕ
refused_number None = 0
refused_number (Some x) = refusal_number x
