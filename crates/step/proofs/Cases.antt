-- "Events": the states that an event can leave behind, each with what is known where it does.
use mathlib.Core.Path.{◌≡◌, refl}
use mathlib.Core.Bool.{Bool, true, false}
use Prim.Native.Nat.{ℕ}
use lib.Dec.{eqb}
use borrow.Author.Tests.{eqb-true}
use Rattle.below.proofs.Tests.{clash}
use Rattle.plan.specs.declared.Plan.{Plan}
use Rattle.plan.specs.Plan.{owner, is_global}
use Rattle.state.specs.declared.State.{State}
use Rattle.state.specs.State.{task_at}
use Rattle.state.specs.Update.{with_task, with_used, waiting_for, giving_back}
use Rattle.step.specs.declared.Outcome.{Outcome}
use Rattle.step.specs.Refusals.{release, lock, unlock, end, tick, order_table, first_refusal, refusal}
use Rattle.step.specs.Events.{answered, released, length_fits_budget, with_taken, locked, unlocked, ended_task}
use Rattle.step.specs.Tick.{ticked}
use Rattle.step.specs.Step.{done, stepped}

-- C holds of each of them
pub record Cases (p : Plan) (s : State) (kind k r : ℕ) (C : State → Type 0) : Type 0 where
  -- a refusal, or an unknown kind
  pub kept : C s
  pub on_release : refusal p s release k r ≡ 0 → C (released s k)
  pub on_take : refusal p s lock k r ≡ 0 → (is_global p r ≡ true → length_fits_budget p s k r ≡ true) → C (with_taken s k r)
  pub on_wait : refusal p s lock k r ≡ 0 → is_global p r ≡ true → C (with_task s k (waiting_for (task_at s k) r))
  pub on_unlock_local : refusal p s unlock k r ≡ 0 → is_global p r ≡ false → C (with_task s k (giving_back (task_at s k)))
  pub on_unlock_global : refusal p s unlock k r ≡ 0 → is_global p r ≡ true → C (with_used (with_task s k (giving_back (task_at s k))) (owner p k) 0)
  pub on_end : refusal p s end k r ≡ 0 → C (ended_task s k)
  pub on_tick : kind ≡ tick → C (ticked p s).state

-- what holds of both ways of a test, whatever it is and wherever they lead
pub either : {A : Type 0} (C : A → Type 0) (b : Bool) (x y : A) → (b ≡ true → C x) → (b ≡ false → C y) → C (elim b [ true ↦ x | false ↦ y ])
either C true x y f g = f refl
either C false x y f g = g refl

module _ (p : Plan) (s : State) (kind k r : ℕ) (C : State → Type 0) (D : Cases p s kind k r C) where
  -- C of the state of an outcome
  Left : Outcome → Type 0
  Left o = C o.state

  -- a lock takes or waits
  lock_case : refusal p s lock k r ≡ 0 → Left (locked p s k r)
  unfolding locked answered Left
  lock_case e =
      either Left _ _ _ (λ g. either Left _ _ _ (λ f. D.on_take e (λ q. f)) (λ f. D.on_wait e g)) (λ g. D.on_take e (λ q. absurd (clash q g)))

  -- an unlock gives back
  unlock_case : refusal p s unlock k r ≡ 0 → C (unlocked p s k r)
  unfolding unlocked
  unlock_case e = either C _ _ _ (D.on_unlock_global e) (D.on_unlock_local e)

  -- by the kind of the event
  done_case : refusal p s kind k r ≡ 0 → Left (done p s kind k r)
  unfolding done answered Left
  done_case e =
      either Left _ _ _ (λ q. D.on_release (of release q))
      (λ _. either Left _ _ _ (λ q. lock_case (of lock q))
      (λ _. either Left _ _ _ (λ q. unlock_case (of unlock q))
      (λ _. either Left _ _ _ (λ q. D.on_end (of end q)) (λ _. either Left _ _ _ (λ q. D.on_tick (eqb-true kind tick q)) (λ _. D.kept)))))
    where
      of : (m : ℕ) → eqb kind m ≡ true → refusal p s m k r ≡ 0
      of m q = rw (eqb-true kind m q) at e

  -- refused or done
  pub stepped_cases : C (stepped p s kind k r).state
  unfolding stepped answered Left
  stepped_cases = either Left _ _ _ (λ q. done_case (eqb-true _ 0 q)) (λ _. D.kept)

-- a tick is never refused
pub stepped_tick : (p : Plan) (s : State) (k r : ℕ) → stepped p s tick k r ≡ ticked p s
unfolding stepped done refusal order_table first_refusal
stepped_tick p s k r = refl
