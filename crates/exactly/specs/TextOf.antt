-- The text of a plan: its rows in order, its U lines by task and then by resource.
use Rattle.std.specs.Prelude.{true, false, List, [], ◌∷◌, ◌++◌, ℕ, zero, suc}
use Rattle.text.specs.Bytes.{bytes}
use Rattle.text.specs.Lines.{tab, line_feed}
use Rattle.text.specs.Numbers.{decimal}
use Rattle.plan.specs.declared.Plan.{Plan}
use Rattle.plan.specs.Plan.{period, budget, owner, is_global, length_of, declares}

-- a line of fields
unfoldable pub tabbed : List (List ℕ) → List ℕ
tabbed [] = line_feed ∷ []
tabbed (f ∷ []) = f ++ (line_feed ∷ [])
tabbed (f ∷ g ∷ fs) = f ++ (tab ∷ tabbed (g ∷ fs))

-- the texts of the numbers below n, one behind the other
unfoldable pub texts : ℕ → (ℕ → List ℕ) → List ℕ
texts zero f = []
texts (suc n) f = texts n f ++ f n

-- the S line of a row
unfoldable pub subsystem_text : Plan → ℕ → List ℕ
subsystem_text p s = tabbed (bytes "S" ∷ decimal (period p s) ∷ decimal (budget p s) ∷ [])

-- the T line of a row
unfoldable pub task_text : Plan → ℕ → List ℕ
task_text p t = tabbed (bytes "T" ∷ decimal (owner p t) ∷ [])

-- L or G
unfoldable pub kind_text : Plan → ℕ → List ℕ
kind_text p r = elim (is_global p r) [ true ↦ bytes "G" | false ↦ bytes "L" ]

-- the R line of a row
unfoldable pub resource_text : Plan → ℕ → List ℕ
resource_text p r = tabbed (bytes "R" ∷ kind_text p r ∷ [])

-- a pair that is not declared has no line
unfoldable pub use_text : Plan → ℕ → ℕ → List ℕ
use_text p t r = elim (declares p t r) [ true ↦ tabbed (bytes "U" ∷ decimal t ∷ decimal r ∷ decimal (length_of p t r) ∷ []) | false ↦ [] ]

-- all lines of a plan
unfoldable pub text_of : Plan → List ℕ
text_of p =
    texts p.subsystems (subsystem_text p)
    ++ (texts p.tasks (task_text p)
    ++ (texts p.resources (resource_text p) ++ texts p.tasks (λ t. texts p.resources (use_text p t))))
