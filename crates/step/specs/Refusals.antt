-- "Events": the refusals 2 to 9, and for each kind of event the order in which they are tried.
use Rattle.std.specs.Prelude.{Bool, true, false, not, ◌&&◌, ◌||◌, List, [], ◌∷◌, ℕ, leb, eqb, get_or}
use Rattle.plan.specs.declared.Plan.{Plan}
use Rattle.plan.specs.Plan.{declares}
use Rattle.state.specs.declared.State.{State}
use Rattle.state.specs.State.{most_held, task_at, is_idle, holds, last_held, in_section}
use Rattle.choice.specs.Choice.{running}

-- kinds 0 to 4 are release, lock, unlock, end, tick
abbrev pub release : ℕ
release = 0

-- kind 1
abbrev pub lock : ℕ
lock = 1

-- kind 2
abbrev pub unlock : ℕ
unlock = 2

-- kind 3
abbrev pub end : ℕ
end = 3

-- kind 4
abbrev pub tick : ℕ
tick = 4

-- the order table: a row for each kind
unfoldable pub order_table : List (List ℕ)
order_table =
    (2 ∷ 3 ∷ [])
    ∷ (2 ∷ 4 ∷ 5 ∷ 6 ∷ 9 ∷ [])
    ∷ (2 ∷ 4 ∷ 7 ∷ [])
    ∷ (2 ∷ 4 ∷ 8 ∷ [])
    ∷ []
    ∷ []

-- lock and unlock use a resource row
unfoldable pub uses_resource : ℕ → Bool
uses_resource kind = eqb kind lock || eqb kind unlock

-- 2: no such task or resource row
unfoldable pub no_such_row : Plan → ℕ → ℕ → ℕ → Bool
no_such_row p kind k r = leb p.tasks k || (uses_resource kind && leb p.resources r)

-- 3: release of a task that is not idle
unfoldable pub not_idle : State → ℕ → Bool
not_idle s k = not (is_idle (task_at s k))

-- 4: the task is not the one running
unfoldable pub not_running : Plan → State → ℕ → Bool
not_running p s k = not (eqb (running p s) k)

-- 5: the resource is not declared
unfoldable pub not_declared : Plan → ℕ → ℕ → Bool
not_declared p k r = not (declares p k r)

-- 6: the job holds a global, or holds this one
unfoldable pub holds_already : Plan → State → ℕ → ℕ → Bool
holds_already p s k r = in_section p (task_at s k) || holds (task_at s k) r

-- 7: not the resource it took last, or it holds none
unfoldable pub not_last : State → ℕ → ℕ → Bool
not_last s k r = eqb (task_at s k).count 0 || not (eqb (last_held (task_at s k)) r)

-- 8: end while holding
unfoldable pub still_holding : State → ℕ → Bool
still_holding s k = leb 1 (task_at s k).count

-- 9: a fifth held resource
unfoldable pub fifth_held : State → ℕ → Bool
fifth_held s k = leb most_held (task_at s k).count

-- the tests of the numbers 0 to 9: 0 and 1 are answers and no refusals
unfoldable pub tests : Plan → State → ℕ → ℕ → ℕ → List Bool
tests p s kind k r =
    false
    ∷ false
    ∷ no_such_row p kind k r
    ∷ not_idle s k
    ∷ not_running p s k
    ∷ not_declared p k r
    ∷ holds_already p s k r
    ∷ not_last s k r
    ∷ still_holding s k
    ∷ fifth_held s k
    ∷ []

-- refusal n applies
unfoldable pub refuses : Plan → State → ℕ → ℕ → ℕ → ℕ → Bool
refuses p s kind k r n = get_or (tests p s kind k r) n false

-- the first of some refusals that applies; 0 if none does
unfoldable pub first_refusal : (ℕ → Bool) → List ℕ → ℕ
first_refusal refused [] = 0
first_refusal refused (n ∷ ns) = elim (refused n) [ true ↦ n | false ↦ first_refusal refused ns ]

-- what an event is refused with, tried in the order of its kind's row; 0 if it is not
unfoldable pub refusal : Plan → State → ℕ → ℕ → ℕ → ℕ
refusal p s kind k r = first_refusal (refuses p s kind k r) (get_or order_table kind [])
