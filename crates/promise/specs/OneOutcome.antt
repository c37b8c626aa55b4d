-- "How tight the statements are": a call states its complete outcome, so that no second one fits.
use Rattle.std.specs.Prelude.{◌≡◌, List, ℕ, ℤ}
use Rattle.plan.specs.declared.Plan.{Plan}
use Rattle.state.specs.declared.State.{State}
use Rattle.step.specs.declared.Outcome.{Outcome}
use Rattle.step.specs.declared.Answer.{Answer}
use Rattle.step.specs.Step.{step, answer_of}
use Rattle.host.specs.Read.{read_left, read_call}
use Rattle.host.specs.Margin.{margin_left, margin_call}
use Rattle.host.specs.Fresh.{fresh_left, fresh_call}
use Rattle.host.specs.Step.{step_left, step_call}
use Rattle.host.specs.Line.{line_left, line_call}

-- a statement over what is lent and what is left admits one outcome only
abbrev pub OneOutcome : {A B : Type 0} → (A → B → Type 0) → Type 0
OneOutcome {A} {B} says = (a : A) (b c : B) → says a b → says a c → b ≡ c

-- what the public calls state, each as its `ensures` has it, of everything lent and everything left

abbrev pub ReadSays : (List ℕ × (List ℕ × ℕ)) → (ℕ × (List ℕ × ℕ)) → Type 0
ReadSays (text, (block, beside)) (r, (after, told)) = read_left r after told ≡ read_call text block beside

abbrev pub MarginSays : (List ℕ × ℕ) → (ℕ × ℤ) → Type 0
MarginSays (text, row) (r, margin) = margin_left r margin ≡ margin_call text row

abbrev pub FreshSays : (List ℕ × List ℕ) → (ℕ × List ℕ) → Type 0
FreshSays (block, image) (r, after) = fresh_left r after ≡ fresh_call block image

abbrev pub StepSays : (List ℕ × (List ℕ × ((ℕ × (ℕ × ℕ)) × (ℕ × (ℕ × ℕ))))) → (ℕ × (List ℕ × (ℕ × (ℕ × ℕ)))) → Type 0
StepSays (block, (image, ((kind, (task, resource)), (subsystem, (running, ended))))) (r, (after, (c, (k, es)))) =
    step_left r after c k es ≡ step_call block image kind task resource subsystem running ended

abbrev pub LineSays : (List ℕ × (List ℕ × (ℕ × (List ℕ × (List ℕ × ℕ))))) → (ℕ × (List ℕ × (List ℕ × ℕ))) → Type 0
LineSays (block, (image, (n, (line, (out, fill))))) (r, (after, (printed, end))) = line_left r after printed end ≡ line_call block image n line out fill

abbrev pub RecordSays : (Plan × (State × (ℕ × (ℕ × ℕ)))) → Outcome → Type 0
RecordSays (p, (s, (kind, (task, resource)))) o = o ≡ step p s kind task resource

abbrev pub LentSays : (Plan × (State × (ℕ × (ℕ × ℕ)))) → (Answer × State) → Type 0
LentSays (p, (s, (kind, (task, resource)))) (r, after) = (r ≡ answer_of (step p s kind task resource)) × (after ≡ (step p s kind task resource).state)

-- each of them
pub record CallsHaveOneOutcome : Type 0 where
  pub of_read : OneOutcome ReadSays
  pub of_margin : OneOutcome MarginSays
  pub of_fresh : OneOutcome FreshSays
  pub of_step : OneOutcome StepSays
  pub of_line : OneOutcome LineSays
  pub of_record : OneOutcome RecordSays
  pub of_lent : OneOutcome LentSays
