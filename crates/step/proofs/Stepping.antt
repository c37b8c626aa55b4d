-- A step on any plan and state record: 31, 32, or the event on what is lent.
use Rattle.std.proofs.Common.{◌≡◌, true, false, ℕ, arith}
use Rattle.plan.specs.declared.Plan.{Plan}
use Rattle.below.proofs.Listed.{get_or_listed}
use Rattle.plan.specs.Limits.{most_resources}
use Rattle.plan.specs.Accepted.{accepted}
use Rattle.plan.specs.Ceiling.{ceiling}
use Rattle.plan.specs.Ceiled.{ceiled}
use Rattle.plan.proofs.Facts.{accepted_facts}
use Rattle.state.specs.declared.State.{State}
use Rattle.legal.specs.Legal.{legal}
use Rattle.legal.proofs.Facts.{legal_facts}
use Rattle.choice.specs.Lent.{Lent}
use Rattle.step.specs.Step.{stepped, unread, step}

module _ (p : Plan) (s : State) (kind k r : ℕ) where
  pub step_31 : accepted p ≡ false → unread s 31 ≡ step p s kind k r
  unfolding step
  step_31 e = rw (step, e)

  pub step_32 : accepted p ≡ true → legal p s ≡ false → unread s 32 ≡ step p s kind k r
  unfolding step
  step_32 e f = rw (step, e, f)

  pub step_on : accepted p ≡ true → legal p s ≡ true → stepped p s kind k r ≡ step p s kind k r
  unfolding step
  step_on e f = rw (step, e, f)

-- the tests have made sure of what the event asks for
pub step_lent : (p : Plan) (s : State) → accepted p ≡ true → legal p s ≡ true → Lent (ceiled p) s
step_lent p s e f =
    let a = accepted_facts p e in
    record {
      accepted = a;
      ceilings = λ r h. get_or_listed most_resources (ceiling p) r 0 (omega (arith, a.resources_most));
      legal = legal_facts p s a f;
    }
