-- "The run program": any event but a tick answers with the subsystem chosen and the task running afterwards.
use mathlib.Core.Path.{◌≡◌, refl}
use mathlib.Core.Logic.{◌≢◌}
use mathlib.Core.Bool.{false}
use Prim.Native.Nat.{ℕ, zero, suc, ◌<◌}
use native.Mathlib.Omega.{arith}
use lib.Dec.{eqb}
use borrow.Author.Tests.{ne_eqb}
use Rattle.plan.specs.declared.Plan.{Plan}
use Rattle.plan.specs.Plan.{is_global}
use Rattle.state.specs.declared.State.{State}
use Rattle.choice.specs.Choice.{chosen, running}
use Rattle.step.specs.declared.Outcome.{Outcome}
use Rattle.step.specs.Refusals.{release, lock, unlock, end, tick, refusal}
use Rattle.step.specs.Events.{answered, length_fits_budget, locked}
use Rattle.step.specs.Step.{done, stepped}
use Rattle.step.proofs.Cases.{either}

-- the choice in the state left behind
abbrev pub Names : Plan → Outcome → Type 0
Names p o = (o.subsystem ≡ chosen p o.state) × (o.task ≡ running p o.state)

module _ (p : Plan) (s : State) (k r : ℕ) where
  release_names : Names p (done p s release k r)
  unfolding done answered
  release_names = (refl, refl)

  -- taken or waiting
  lock_names : Names p (done p s lock k r)
  unfolding done locked answered
  lock_names = either (Names p) (is_global p r) _ _ (λ g. either (Names p) (length_fits_budget p s k r) _ _ (λ f. (refl, refl)) (λ f. (refl, refl))) (λ g. (refl, refl))

  unlock_names : Names p (done p s unlock k r)
  unfolding done answered
  unlock_names = (refl, refl)

  end_names : Names p (done p s end k r)
  unfolding done answered
  end_names = (refl, refl)

  unknown_names : (kind : ℕ) → tick < kind → Names p (done p s kind k r)
  unfolding done answered
  unknown_names kind h = rw (done, other release (omega arith), other lock (omega arith), other unlock (omega arith), other end (omega arith), other tick (omega arith)) (refl, refl)
    where
      other : (m : ℕ) → m < kind → eqb kind m ≡ false
      other m l = ne_eqb kind m (λ e. absurd (omega arith))

  -- by the kind of the event
  done_names : (kind : ℕ) → kind ≢ tick → Names p (done p s kind k r)
  done_names zero n = release_names
  done_names (suc zero) n = lock_names
  done_names (suc (suc zero)) n = unlock_names
  done_names (suc (suc (suc zero))) n = end_names
  done_names (suc (suc (suc (suc zero)))) n = absurd (n refl)
  done_names (suc (suc (suc (suc (suc m))))) n = unknown_names _ (omega arith)

  -- refused or done
  pub stepped_names : (kind : ℕ) → kind ≢ tick → Names p (stepped p s kind k r)
  unfolding stepped answered
  stepped_names kind n = either (Names p) (eqb (refusal p s kind k r) 0) _ _ (λ q. done_names kind n) (λ q. (refl, refl))
