-- "Events", step (a): what each turn keeps, all of them keep.
use mathlib.Core.Path.{◌≡◌, refl}
use mathlib.Core.Bool.{Bool, true, false}
use Prim.Native.Nat.{ℕ, zero, suc}
use Rattle.plan.specs.declared.Plan.{Plan}
use Rattle.plan.specs.Plan.{owner}
use Rattle.state.specs.declared.State.{State}
use Rattle.state.specs.Update.{with_used}
use Rattle.choice.specs.Choice.{chosen_task}
use Rattle.step.specs.Events.{ended_task}
use Rattle.step.specs.Tick.{Shut, is_spent, shut_one, shut_turns, shut_spent}

-- the state after one turn
abbrev pub shut_state : Plan → State → ℕ → State
shut_state p s k = with_used (ended_task s k) (owner p k) 0

module _ (p : Plan) (C : State → Type 0) (one : (s : State) → C s → is_spent p s ≡ true → C (shut_state p s (chosen_task p s))) where
  -- one turn, and the others after it
  turn_case : (n : ℕ) (x : Shut) → C x.state → ((y : Shut) → C y.state → C (shut_turns n p y).state) → C (shut_turns (suc n) p x).state
  unfolding shut_turns shut_one
  turn_case n x c rest = go (is_spent p x.state) refl
    where
      Left : Shut → Type 0
      Left y = C y.state

      go : (b : Bool) → is_spent p x.state ≡ b → Left (elim b [ true ↦ shut_turns n p (shut_one p x (chosen_task p x.state)) | false ↦ x ])
      go true e = rest (shut_one p x (chosen_task p x.state)) (one x.state c e)
      go false e = c

  -- n turns
  turns_case : (n : ℕ) (x : Shut) → C x.state → C (shut_turns n p x).state
  unfolding shut_turns
  turns_case zero x c = c
  turns_case (suc n) x c = turn_case n x c (turns_case n)

  -- all turns
  pub shut_case : (s : State) → C s → C (shut_spent p s).state
  unfolding shut_spent
  shut_case s c = turns_case p.subsystems (record { state = s; ended = 0 }) c
