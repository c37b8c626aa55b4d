-- "The plan text": what a plan says of its rows, and the orders that decide who comes first.
use Rattle.std.specs.Prelude.{Bool, not, ℕ, ◌+◌, ◌*◌, ltb, eqb, get_or}
use Rattle.below.specs.Below.{first}
use Rattle.plan.specs.declared.Plan.{Plan}
use Rattle.plan.specs.Limits.{most_resources, undeclared}

-- S: the period of a subsystem
unfoldable pub period : Plan → ℕ → ℕ
period p s = get_or p.periods s 0

-- S: the budget of a subsystem
unfoldable pub budget : Plan → ℕ → ℕ
budget p s = get_or p.budgets s 0

-- T: the subsystem row of a task
unfoldable pub owner : Plan → ℕ → ℕ
owner p t = get_or p.owners t 0

-- R: a resource is global, or else local
unfoldable pub is_global : Plan → ℕ → Bool
is_global p r = eqb (get_or p.kinds r 0) 1

-- U: where the length of a task at a resource stands
unfoldable pub place : ℕ → ℕ → ℕ
place t r = t * most_resources + r

-- U: the declared length of a task at a resource
unfoldable pub length_of : Plan → ℕ → ℕ → ℕ
length_of p t r = get_or p.lengths (place t r) 0

-- U: without a U line the task may not lock the resource
unfoldable pub declares : Plan → ℕ → ℕ → Bool
declares p t r = not (eqb (length_of p t r) undeclared)

-- a smaller subsystem row is a higher priority: the level of a row is the row
unfoldable pub level : Plan → ℕ → ℕ
level p s = s

-- of the subsystems that pass, the one of the smallest level; the number of subsystems if none does
unfoldable pub highest : Plan → (ℕ → Bool) → ℕ
highest p q = first p.subsystems q

-- within a subsystem a smaller task row is taken before a larger
unfoldable pub taken_before : Plan → ℕ → ℕ → Bool
taken_before p j k = ltb j k

-- of the tasks that pass, the one taken before the others; the number of tasks if none does
unfoldable pub foremost : Plan → (ℕ → Bool) → ℕ
foremost p q = first p.tasks q
