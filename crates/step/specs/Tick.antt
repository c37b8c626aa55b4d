-- "Events", tick: (a) to (d).
use Rattle.std.specs.Prelude.{Bool, true, false, ◌&&◌, ℕ, zero, suc, ◌+◌, ◌-◌, ◌^◌, leb, ltb, eqb}
use Rattle.below.specs.Listed.{listed}
use Rattle.plan.specs.declared.Plan.{Plan}
use Rattle.plan.specs.Limits.{most_subsystems, no_row}
use Rattle.plan.specs.Plan.{period, budget, owner}
use Rattle.state.specs.declared.State.{State}
use Rattle.state.specs.State.{task_at, left_of, refill_of, used_of, is_waiting, in_section, section_left}
use Rattle.state.specs.Update.{with_task, with_left, with_used, started}
use Rattle.choice.specs.Choice.{chosen, taken, runs, chosen_task}
use Rattle.step.specs.declared.Outcome.{Outcome}
use Rattle.step.specs.Events.{length_fits_budget, with_taken, ended_task}

-- a state on the way through a tick, with the tasks ended so far
pub record Shut : Type 0 where
  pub state : State
  pub ended : ℕ

-- (a) the chosen task holds a global whose length is used up
unfoldable pub is_spent : Plan → State → Bool
is_spent p s = in_section p (task_at s (chosen_task p s)) && eqb (section_left p s (chosen_task p s)).0 0

-- (a) task k is ended, all it holds is freed and used is set to 0
unfoldable pub shut_one : Plan → Shut → ℕ → Shut
shut_one p x k = record { state = with_used (ended_task x.state k) (owner p k) 0; ended = x.ended + 2 ^ k }

-- (a) again while that is so, the choice being made again; n turns at most, as each frees the section of one subsystem
unfoldable pub shut_turns : ℕ → Plan → Shut → Shut
shut_turns zero p x = x
shut_turns (suc n) p x = elim (is_spent p x.state) [ true ↦ shut_turns n p (shut_one p x (chosen_task p x.state)) | false ↦ x ]

-- (a) as many turns as there are subsystems are enough
unfoldable pub shut_spent : Plan → State → Shut
shut_spent p s = shut_turns p.subsystems p (record { state = s; ended = 0 })

-- (b) if task k waits and its length is at most the budget left, it takes the resource
unfoldable pub given_waited : Plan → State → ℕ → State
given_waited p s k =
    elim (is_waiting (task_at s k) && length_fits_budget p s k (task_at s k).waits) [ true ↦ with_taken s k (task_at s k).waits | false ↦ s ]

-- (c) subsystem c is charged one tick
unfoldable pub charged : State → ℕ → State
charged s c = with_left s c (record { 0 = (left_of s c).0 - 1 })

-- (c) the running task k, if any, is started and, inside a global section, its used count rises by one
unfoldable pub ran : Plan → State → ℕ → State
ran p s k =
    elim (ltb k p.tasks) [
      | false ↦ s
      | true ↦ let t = started (task_at s k) in
          elim (in_section p t) [ true ↦ with_used (with_task s k t) (owner p k) (used_of s (owner p k) + 1) | false ↦ with_task s k t ]
    ]

-- (d) every subsystem's ticks to refill fall by one, and at 0 budget and period are set full again
unfoldable pub refilled : Plan → State → State
refilled p s =
    record {
      left = listed most_subsystems (λ c. elim (leb (refill_of s c) 1) [ true ↦ record { 0 = budget p c } | false ↦ left_of s c ]);
      refill = listed most_subsystems (λ c. elim (leb (refill_of s c) 1) [ true ↦ period p c | false ↦ refill_of s c - 1 ]);
      used = s.used;
      conditions = s.conditions;
      waits = s.waits;
      counts = s.counts;
      held = s.held;
    }

-- 0 done, or 10 where a section was shut
unfoldable pub tick_answer : ℕ → ℕ
tick_answer ended = elim (eqb ended 0) [ true ↦ 0 | false ↦ 10 ]

-- (b) to (d) with subsystem c chosen: it is the one charged, and the task that then runs is the one run
unfoldable pub tick_in : Plan → Shut → ℕ → Outcome
tick_in p x c =
    let k = taken p x.state c in
    let given = given_waited p x.state k in
    record {
      answer = tick_answer x.ended;
      subsystem = c;
      task = runs given k;
      ended = x.ended;
      state = refilled p (ran p (charged given c) (runs given k));
    }

-- with no subsystem chosen only (d) follows
unfoldable pub tick_idle : Plan → Shut → Outcome
tick_idle p x =
    record { answer = tick_answer x.ended; subsystem = no_row; task = no_row; ended = x.ended; state = refilled p x.state }

-- what follows (a)
unfoldable pub tick_after : Plan → Shut → Outcome
tick_after p x = elim (eqb (chosen p x.state) no_row) [ true ↦ tick_idle p x | false ↦ tick_in p x (chosen p x.state) ]

-- a tick
unfoldable pub ticked : Plan → State → Outcome
ticked p s = tick_after p (shut_spent p s)
