-- "Admission": the listed conditions as conditions on the lines of a text, with no plan half read. Above are the lines above the line judged.
use Rattle.std.specs.Prelude.{◌≡◌, true, false, cond, List, [], ◌∷◌, map, ℕ, zero, suc, ◌+◌, ◌≤◌, ◌<◌, eqb}
use lib.ListN.{length, get_or, take}
use Rattle.text.specs.Lines.{lines}
use Rattle.plan.specs.declared.Plan.{Plan}
use Rattle.plan.specs.Limits.{most_subsystems, most_tasks, most_resources, longest}
use Rattle.plan.specs.Plan.{period}
use Rattle.plan.specs.Admission.{demand}
use Rattle.reader.specs.declared.Line.{Line}
use Rattle.reader.specs.declared.Line.TheVariants.{Subsystem, Task, Resource, Uses}
use Rattle.reader.specs.Line.{line_of, kind_of}
use Rattle.reader.specs.Reading.{most_bytes, empty_plan, with_line}
use Rattle.std.specs.Prelude.{Option, Some, None}

-- the lines of a text
unfoldable pub lines_of : List ℕ → List (Option Line)
lines_of text = map line_of (lines text)

-- the line at a place, from 0
unfoldable pub line_at : List (Option Line) → ℕ → Option Line
line_at ls i = get_or ls i None

-- how many lines are of a kind
unfoldable pub count_of : ℕ → List (Option Line) → ℕ
count_of kind [] = 0
count_of kind (l ∷ ls) = cond (eqb (kind_of l) kind) 1 0 + count_of kind ls

-- the line of a row of a kind: rows count from 0 in order of appearance
unfoldable pub row_of : ℕ → List (Option Line) → ℕ → Option Line
row_of kind [] n = None
row_of kind (l ∷ ls) zero = elim (eqb (kind_of l) kind) [ true ↦ l | false ↦ row_of kind ls zero ]
row_of kind (l ∷ ls) (suc n) = elim (eqb (kind_of l) kind) [ true ↦ row_of kind ls n | false ↦ row_of kind ls (suc n) ]

-- what the S line of a row says
unfoldable pub budget_said : Option Line → ℕ
budget_said (Some (Subsystem period budget)) = budget
budget_said (Some (Task subsystem)) = 0
budget_said (Some (Resource kind)) = 0
budget_said (Some (Uses task resource length)) = 0
budget_said None = 0

-- what the T line of a row says
unfoldable pub owner_said : Option Line → ℕ
owner_said (Some (Subsystem period budget)) = 0
owner_said (Some (Task subsystem)) = subsystem
owner_said (Some (Resource kind)) = 0
owner_said (Some (Uses task resource length)) = 0
owner_said None = 0

-- resource row r is global by the lines above
abbrev pub Global : List (Option Line) → ℕ → Type 0
Global above r = row_of 2 above r ≡ Some (Resource 1)

-- the subsystem of task row t by the lines above
abbrev pub owner_in : List (Option Line) → ℕ → ℕ
owner_in above t = owner_said (row_of 1 above t)

-- the budget of subsystem row s by the lines above
abbrev pub budget_in : List (Option Line) → ℕ → ℕ
budget_in above s = budget_said (row_of 0 above s)

-- 21: of the grammar
abbrev pub OfGrammar : Option Line → Type 0
OfGrammar l = l ≡ None → ⊥

-- 22: no kind above is a later one
abbrev pub InOrder : List (Option Line) → Option Line → Type 0
InOrder above l = (i : ℕ) → i < length above → kind_of (line_at above i) ≤ kind_of l

-- 23: at most so many rows of the kind
abbrev pub RowsLeft : List (Option Line) → Option Line → Type 0
RowsLeft above (Some (Subsystem period budget)) = count_of 0 above < most_subsystems
RowsLeft above (Some (Task subsystem)) = count_of 1 above < most_tasks
RowsLeft above (Some (Resource kind)) = count_of 2 above < most_resources
RowsLeft above (Some (Uses task resource length)) = Unit
RowsLeft above None = Unit

-- 24: each row that is named exists
abbrev pub RowsThere : List (Option Line) → Option Line → Type 0
RowsThere above (Some (Subsystem period budget)) = Unit
RowsThere above (Some (Task subsystem)) = subsystem < count_of 0 above
RowsThere above (Some (Resource kind)) = Unit
RowsThere above (Some (Uses task resource length)) = (task < count_of 1 above) × (resource < count_of 2 above)
RowsThere above None = Unit

-- 25: period 1..10000, budget 1..period, length 0 for a local resource and 1..10000 for a global one
abbrev pub InRange : List (Option Line) → Option Line → Type 0
InRange above (Some (Subsystem period budget)) = (1 ≤ period) × (period ≤ longest) × (1 ≤ budget) × (budget ≤ period)
InRange above (Some (Task subsystem)) = Unit
InRange above (Some (Resource kind)) = Unit
InRange above (Some (Uses task resource length)) = (Global above resource → (1 ≤ length) × (length ≤ longest)) × ((Global above resource → ⊥) → length ≡ 0)
InRange above None = Unit

-- 26: the pair is not declared above
abbrev pub Once : List (Option Line) → Option Line → Type 0
Once above (Some (Subsystem period budget)) = Unit
Once above (Some (Task subsystem)) = Unit
Once above (Some (Resource kind)) = Unit
Once above (Some (Uses task resource length)) = (i m : ℕ) → i < lib.ListN.length above → line_at above i ≡ Some (Uses task resource m) → ⊥
Once above None = Unit

-- 27: a local resource is used from one subsystem
abbrev pub FromOneSubsystem : List (Option Line) → Option Line → Type 0
FromOneSubsystem above (Some (Subsystem period budget)) = Unit
FromOneSubsystem above (Some (Task subsystem)) = Unit
FromOneSubsystem above (Some (Resource kind)) = Unit
FromOneSubsystem above (Some (Uses task resource length)) =
    (Global above resource → ⊥)
    → (i k m : ℕ) → i < lib.ListN.length above → line_at above i ≡ Some (Uses k resource m) → owner_in above k ≡ owner_in above task
FromOneSubsystem above None = Unit

-- 28: a length is at most the subsystem's budget
abbrev pub WithinBudget : List (Option Line) → Option Line → Type 0
WithinBudget above (Some (Subsystem period budget)) = Unit
WithinBudget above (Some (Task subsystem)) = Unit
WithinBudget above (Some (Resource kind)) = Unit
WithinBudget above (Some (Uses task resource length)) = length ≤ budget_in above (owner_in above task)
WithinBudget above None = Unit

-- the condition behind the refusal 21 + c of a line
abbrev pub Condition : ℕ → List (Option Line) → Option Line → Type 0
Condition zero above l = OfGrammar l
Condition (suc zero) above l = InOrder above l
Condition (suc (suc zero)) above l = RowsLeft above l
Condition (suc (suc (suc zero))) above l = RowsThere above l
Condition (suc (suc (suc (suc zero)))) above l = InRange above l
Condition (suc (suc (suc (suc (suc zero))))) above l = Once above l
Condition (suc (suc (suc (suc (suc (suc zero)))))) above l = FromOneSubsystem above l
Condition (suc (suc (suc (suc (suc (suc (suc zero))))))) above l = WithinBudget above l
Condition (suc (suc (suc (suc (suc (suc (suc (suc c)))))))) above l = Unit

-- line i of some lines meets them all
abbrev pub LineMeets : List (Option Line) → ℕ → Type 0
LineMeets ls i = (c : ℕ) → Condition c (take i ls) (line_at ls i)

-- the plan of some lines
unfoldable pub plan_after : Plan → List (Option Line) → Plan
plan_after p [] = p
plan_after p (l ∷ ls) = plan_after (with_line p l) ls

-- the plan of a text
unfoldable pub plan_in : List ℕ → Plan
plan_in text = plan_after empty_plan (lines_of text)

-- a text that meets the listed conditions
pub record Meets (text : List ℕ) : Type 0 where
  pub short : length text ≤ most_bytes
  pub each : (i : ℕ) → i < length (lines_of text) → LineMeets (lines_of text) i
  pub some_subsystem : 1 ≤ count_of 0 (lines_of text)
  pub margins : (s : ℕ) → s < count_of 0 (lines_of text) → demand (plan_in text) s ≤ period (plan_in text) s

-- the first condition that a text breaks, in document 01's order: the number of the refusal and the number beside it
pub data FirstBroken (text : List ℕ) : ℕ → ℕ → Type 0 where
  too_long : most_bytes < length text → FirstBroken text 20 0
  bad_line : length text ≤ most_bytes
      → (i : ℕ) → i < length (lines_of text)
      → ((j : ℕ) → j < i → LineMeets (lines_of text) j)
      → (c : ℕ) → ((d : ℕ) → d < c → Condition d (take i (lines_of text)) (line_at (lines_of text) i))
      → (Condition c (take i (lines_of text)) (line_at (lines_of text) i) → ⊥)
      → FirstBroken text (21 + c) (i + 1)
  no_subsystem : length text ≤ most_bytes
      → ((i : ℕ) → i < length (lines_of text) → LineMeets (lines_of text) i)
      → count_of 0 (lines_of text) ≡ 0
      → FirstBroken text 29 0
  negative : length text ≤ most_bytes
      → ((i : ℕ) → i < length (lines_of text) → LineMeets (lines_of text) i)
      → (s : ℕ) → s < count_of 0 (lines_of text)
      → ((h : ℕ) → h < s → demand (plan_in text) h ≤ period (plan_in text) h)
      → period (plan_in text) s < demand (plan_in text) s
      → FirstBroken text 30 s
