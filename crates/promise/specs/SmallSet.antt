-- The small proved set: document 01's plan P, its events, and the cases that are proved of them, in one table.
use Rattle.std.specs.Prelude.{◌≡◌, List, [], ◌∷◌, ◌++◌, ℕ, ◌-◌, ℤ, pos, negsuc, get_or, Result, Ok, Err}
use Prim.Native.String.{String}
use Rattle.text.specs.Bytes.{bytes}
use Rattle.text.specs.Lines.{lines}
use Rattle.plan.specs.declared.Plan.{Plan}
use Rattle.reader.specs.declared.refusals.Refusal.{Refusal}
use Rattle.reader.specs.Numbers.{number, beside}
use Rattle.reader.specs.Reading.{reading}
use Rattle.reader.specs.Margin.{asked}
use Rattle.line.specs.Run.{run}

-- plan P, with the budget of its second subsystem as given
unfoldable pub plan_with : String → List ℕ
plan_with budget =
    bytes "S\t10\t4\nS\t20\t"
    ++ (bytes budget ++ bytes "\nT\t0\nT\t0\nT\t1\nR\tG\nR\tL\nU\t0\t0\t2\nU\t0\t1\t0\nU\t1\t1\t0\nU\t2\t0\t3\n")

-- the events of the run of plan P
unfoldable pub events : List ℕ
events =
    bytes "release\t2\ntick\nrelease\t1\nlock\t1\t1\nrelease\t0\ntick\ntick\nunlock\t1\t1\nlock\t0\t0\ntick\nlock\t2\t0\ntick\ntick\ntick\ntick\nend\t2\ntick\ntick\ntick\n"

-- what is said of plan P, or of a plan text
pub data Case : Type 0 where
  -- an event of the run of plan P, by its number, prints this line
  prints : ℕ → String → Case
  -- row 1 of plan P with this budget has this margin
  has_margin : String → ℤ → Case
  -- this plan text is refused with these two numbers
  is_refused : String → ℕ → ℕ → Case

-- a reading that is a refusal with these two numbers
abbrev pub RefusedWith : Result Plan Refusal → ℕ → ℕ → Type 0
RefusedWith (Ok p) n b = ⊥
RefusedWith (Err e) n b = (number e ≡ n) × (beside e ≡ b)

-- what each case says of the definitions
abbrev pub Holds : Case → Type 0
Holds (prints n line) = get_or (lines (run (plan_with "6") events)) (n - 1) [] ≡ bytes line
Holds (has_margin budget m) = asked (plan_with budget) 1 ≡ Ok m
Holds (is_refused text n b) = RefusedWith (reading (bytes text)) n b

-- each case of a table holds
abbrev pub AllHold : List Case → Type 0
AllHold [] = Unit
AllHold (c ∷ cs) = Holds c × AllHold cs

-- the table
abbrev pub small_set : List Case
small_set =
    prints 5 "5 0 0 1 -\n"
    ∷ prints 8 "8 0 0 0 -\n"
    ∷ prints 9 "9 1 0 - -\n"
    ∷ prints 11 "11 0 1 2 -\n"
    ∷ prints 14 "14 0 1 2 -\n"
    ∷ prints 15 "15 10 1 - 2\n"
    ∷ prints 16 "16 4 1 - -\n"
    ∷ prints 19 "19 0 0 0 -\n"
    ∷ has_margin "6" (pos 3)
    ∷ has_margin "9" (pos 0)
    ∷ has_margin "10" (negsuc 0)
    ∷ is_refused "" 29 0
    ∷ []
