-- "Events": what an event gives, refusals too. "Calls from C": 31 and 32 come first, then 11, then the event's own.
use Rattle.std.specs.Prelude.{true, false, ℕ, eqb}
use Rattle.plan.specs.declared.Plan.{Plan}
use Rattle.plan.specs.Limits.{no_row}
use Rattle.plan.specs.Accepted.{accepted}
use Rattle.state.specs.declared.State.{State}
use Rattle.legal.specs.Legal.{legal}
use Rattle.step.specs.declared.Outcome.{Outcome}
use Rattle.step.specs.declared.Answer.{Answer}
use Rattle.step.specs.Refusals.{release, lock, unlock, end, tick, refusal}
use Rattle.step.specs.Events.{answered, released, locked, unlocked, ended_task}
use Rattle.step.specs.Tick.{ticked}

-- an event that no refusal applies to, by its kind; any other kind is unknown, 11
unfoldable pub done : Plan → State → ℕ → ℕ → ℕ → Outcome
done p s kind k r =
    elim (eqb kind release) [
      | true ↦ answered p (released s k) 0
      | false ↦ elim (eqb kind lock) [
        | true ↦ locked p s k r
        | false ↦ elim (eqb kind unlock) [
          | true ↦ answered p (unlocked p s k r) 0
          | false ↦ elim (eqb kind end) [
            | true ↦ answered p (ended_task s k) 0
            | false ↦ elim (eqb kind tick) [
              | true ↦ ticked p s
              | false ↦ answered p s 11
            ]
          ]
        ]
      ]
    ]

-- an event on an accepted plan and a legal state: a refusal keeps the state
unfoldable pub stepped : Plan → State → ℕ → ℕ → ℕ → Outcome
stepped p s kind k r = elim (eqb (refusal p s kind k r) 0) [ true ↦ done p s kind k r | false ↦ answered p s (refusal p s kind k r) ]

-- 31 or 32: nothing is chosen, and the state is kept
unfoldable pub unread : State → ℕ → Outcome
unread s n = record { answer = n; subsystem = no_row; task = no_row; ended = 0; state = s }

-- an event on any plan and state record
unfoldable pub step : Plan → State → ℕ → ℕ → ℕ → Outcome
step p s kind k r =
    elim (accepted p) [ false ↦ unread s 31 | true ↦ elim (legal p s) [ false ↦ unread s 32 | true ↦ stepped p s kind k r ] ]

-- what an outcome answers, beside its state
unfoldable pub answer_of : Outcome → Answer
answer_of o = record { answer = o.answer; subsystem = o.subsystem; task = o.task; ended = o.ended }
