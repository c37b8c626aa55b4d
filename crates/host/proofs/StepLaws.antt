-- The two ends of the call step.
use Rattle.std.proofs.Common.{◌≡◌, ℕ, List, ap, ne_eqb}
use Rattle.plan.specs.declared.CeiledPlan.{CeiledPlan}
use Rattle.state.specs.declared.State.{State}
use Rattle.step.specs.declared.Answer.{Answer}
use Rattle.step.specs.Step.{stepped, answer_of}
use Rattle.image.specs.declared.Opened.{Opened}
use Rattle.image.specs.Block.{plan_of}
use Rattle.image.specs.Opening.{opened_number, image_written}
use Rattle.host.specs.Step.{step_left, step_gives, step_call}
use Rattle.host.proofs.OpenLaws.{Opens, image_filled}

module _ (block image : List ℕ) (kind task resource subsystem running ended : ℕ) where
  -- 34, 31, 32: everything is kept
  pub step_refused : (n : ℕ) → n ≡ opened_number block image → (n ≡ 0 → ⊥) → step_left n image subsystem running ended ≡ step_call block image kind task resource subsystem running ended
  unfolding step_call
  step_refused n e h = rw (step_call, ← e, ne_eqb n 0 h) (ap (λ m. step_left m image subsystem running ended) e)

  -- the event's outcome
  pub step_done : {o : Opened} → Opens block image o → (a : Answer) (s : State) → a ≡ answer_of (stepped o.plan.plan o.state kind task resource)
      → s ≡ (stepped o.plan.plan o.state kind task resource).state
      → step_left a.answer (image_written s image) a.subsystem a.task a.ended ≡ step_call block image kind task resource subsystem running ended
  unfolding step_call step_gives answer_of
  step_done {o} x a s e f =
      let plan : o.plan.plan ≡ plan_of block = ap (λ (c : CeiledPlan). c.plan) x.plan in
      rw (e, f, image_filled (stepped o.plan.plan o.state kind task resource).state image x.full, step_call, x.number, ← plan, ← x.state)
