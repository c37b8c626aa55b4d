-- "Events": release, lock, unlock and end, once no refusal applies.
use Rattle.std.specs.Prelude.{Bool, true, false, ℕ, leb}
use Rattle.plan.specs.declared.Plan.{Plan}
use Rattle.plan.specs.Plan.{owner, is_global, length_of}
use Rattle.state.specs.declared.State.{State}
use Rattle.state.specs.State.{idle_task, task_at, left_of}
use Rattle.state.specs.Update.{with_task, with_used, readied, waiting_for, taking, giving_back}
use Rattle.choice.specs.Choice.{chosen, running}
use Rattle.step.specs.declared.Outcome.{Outcome}

-- an answer with the subsystem chosen and the task running in the state left behind
unfoldable pub answered : Plan → State → ℕ → Outcome
answered p s n = record { answer = n; subsystem = chosen p s; task = running p s; ended = 0; state = s }

-- an idle task becomes ready
unfoldable pub released : State → ℕ → State
released s k = with_task s k (readied (task_at s k))

-- the length of task k at global r is at most the budget left of its subsystem
unfoldable pub length_fits_budget : Plan → State → ℕ → ℕ → Bool
length_fits_budget p s k r = leb (length_of p k r) (left_of s (owner p k)).0

-- task k takes resource r
unfoldable pub with_taken : State → ℕ → ℕ → State
with_taken s k r = with_task s k (taking (task_at s k) r)

-- a local resource is taken; a global one if its length is at most the budget left, otherwise the task waits, answer 1
unfoldable pub locked : Plan → State → ℕ → ℕ → Outcome
locked p s k r =
    elim (is_global p r) [
      | false ↦ answered p (with_taken s k r) 0
      | true ↦ elim (length_fits_budget p s k r) [
        | true ↦ answered p (with_taken s k r) 0
        | false ↦ answered p (with_task s k (waiting_for (task_at s k) r)) 1
      ]
    ]

-- the resource taken last is given back; used becomes 0 if it was global
unfoldable pub unlocked : Plan → State → ℕ → ℕ → State
unlocked p s k r =
    let given = with_task s k (giving_back (task_at s k)) in
    elim (is_global p r) [ true ↦ with_used given (owner p k) 0 | false ↦ given ]

-- the task becomes idle
unfoldable pub ended_task : State → ℕ → State
ended_task s k = with_task s k idle_task
