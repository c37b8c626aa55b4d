-- "Who is chosen": a waiting task taken means that nothing runs.
use mathlib.Core.Path.{◌≡◌, sym, ◌∙◌}
use mathlib.Core.Logic.{◌⊎◌, inl, inr, ⊎_elim}
use mathlib.Core.Bool.{true, false}
use Prim.Native.Nat.{ℕ, ◌<◌}
use native.Mathlib.Omega.{arith}
use Rattle.below.proofs.Tests.{decided}
use Rattle.plan.specs.declared.Plan.{Plan}
use Rattle.plan.specs.Limits.{no_row}
use Rattle.plan.specs.Facts.{Accepted}
use Rattle.state.specs.declared.State.{State}
use Rattle.state.specs.State.{task_at, is_waiting}
use Rattle.choice.specs.Choice.{chosen, runs, chosen_task, running}
use Rattle.choice.proofs.Taken.{Takes, taken_takes}

-- a waiting task does not run
pub runs_waiting : (s : State) (k : ℕ) → is_waiting (task_at s k) ≡ true → runs s k ≡ no_row
unfolding runs
runs_waiting s k w = rw (w, runs)

-- any other does
pub runs_going : (s : State) (k : ℕ) → is_waiting (task_at s k) ≡ false → runs s k ≡ k
unfolding runs
runs_going s k w = rw (w, runs)

-- no row is never more than no row
pub runs_nobody : (s : State) → runs s no_row ≡ no_row
runs_nobody s = ⊎_elim (runs_waiting s no_row) (runs_going s no_row) (decided (is_waiting (task_at s no_row)))

module _ (p : Plan) (s : State) (A : Accepted p) (k : ℕ) (h : k < p.tasks) (e : running p s ≡ k) where
  -- the running task is the one taken in the chosen subsystem, and does not wait
  going : (chosen_task p s ≡ k) × (is_waiting (task_at s k) ≡ false)
  unfolding running
  going = go (decided (is_waiting (task_at s (chosen_task p s))))
    where
      go : (is_waiting (task_at s (chosen_task p s)) ≡ true) ⊎ (is_waiting (task_at s (chosen_task p s)) ≡ false) → (chosen_task p s ≡ k) × (is_waiting (task_at s k) ≡ false)
      go (inl w) = absurd (omega (arith, A.tasks_most, sym (runs_waiting s (chosen_task p s) w) ∙ e))
      go (inr w) =
          let q = sym (runs_going s (chosen_task p s) w) ∙ e in
          (q, rw q at w)

  -- it does not wait
  pub running_going : is_waiting (task_at s k) ≡ false
  running_going = going.1

  -- it is the one taken
  pub running_takes : Takes p (task_at s) (chosen p s) k
  unfolding chosen_task
  running_takes =
      let q = going.0 in
      rw q at (taken_takes p s (chosen p s) (λ n. omega (arith, A.tasks_most, sym q ∙ n)))
