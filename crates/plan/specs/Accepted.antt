-- The listed conditions as they read on a plan record: what holds of every plan that was read and of no other record.
use Rattle.std.specs.Prelude.{Bool, not, ◌&&◌, ◌||◌, ℕ, leb, ltb, eqb, get_or}
use Rattle.below.specs.Below.{all}
use Rattle.plan.specs.declared.Plan.{Plan}
use Rattle.plan.specs.Limits.{most_subsystems, most_tasks, most_resources, longest}
use Rattle.plan.specs.Plan.{period, budget, owner, is_global, length_of, declares}
use Rattle.plan.specs.Admission.{admitted}

-- 23 and 29: as many rows as may be, and a subsystem among them
unfoldable pub counts_fit : Plan → Bool
counts_fit p =
    leb 1 p.subsystems && leb p.subsystems most_subsystems && leb p.tasks most_tasks && leb p.resources most_resources

-- 25: a period is 1 to 10000, a budget 1 to its period; an absent subsystem has 0 for both
unfoldable pub subsystem_fits : Plan → ℕ → Bool
subsystem_fits p s =
    (ltb s p.subsystems && leb 1 (period p s) && leb (period p s) longest && leb 1 (budget p s) && leb (budget p s) (period p s))
    || (leb p.subsystems s && eqb (period p s) 0 && eqb (budget p s) 0)

-- 24: a task's subsystem is there; an absent task has 0
unfoldable pub task_fits : Plan → ℕ → Bool
task_fits p t = (ltb t p.tasks && ltb (owner p t) p.subsystems) || (leb p.tasks t && eqb (owner p t) 0)

-- a resource is local, 0, or global, 1; an absent one has 0
unfoldable pub resource_fits : Plan → ℕ → Bool
resource_fits p r = (ltb r p.resources && leb (get_or p.kinds r 0) 1) || (leb p.resources r && eqb (get_or p.kinds r 0) 0)

-- 25 and 28: a declared length is 0 for a local resource, and 1 to 10000 and at most the budget for a global one
unfoldable pub length_fits : Plan → ℕ → ℕ → Bool
length_fits p t r =
    (is_global p r && leb 1 (length_of p t r) && leb (length_of p t r) longest && leb (length_of p t r) (budget p (owner p t)))
    || (not (is_global p r) && eqb (length_of p t r) 0)

-- a pair of rows that are there is undeclared or has a fitting length; any other pair has 0
unfoldable pub use_fits : Plan → ℕ → ℕ → Bool
use_fits p t r =
    (ltb t p.tasks && ltb r p.resources && (not (declares p t r) || length_fits p t r))
    || ((leb p.tasks t || leb p.resources r) && eqb (length_of p t r) 0)

-- 27: a local resource is used from one subsystem
unfoldable pub one_subsystem : Plan → ℕ → Bool
one_subsystem p r =
    is_global p r
    || all p.tasks (λ j. all p.tasks (λ k. not (declares p j r) || not (declares p k r) || eqb (owner p j) (owner p k)))

-- accepted: every condition, and 30, no margin is negative
unfoldable pub accepted : Plan → Bool
accepted p =
    counts_fit p
    && all most_subsystems (subsystem_fits p)
    && all most_tasks (task_fits p)
    && all most_resources (resource_fits p)
    && all most_tasks (λ t. all most_resources (use_fits p t))
    && all p.resources (one_subsystem p)
    && admitted p
