-- No second outcome fits an equation, and each public statement is one.
use mathlib.Core.Path.{◌≡◌, refl, sym, ap, ap₂, ◌∙◌}
use Rattle.state.specs.declared.State.{State}
use Rattle.step.specs.declared.Answer.{Answer}
use Rattle.host.specs.Read.{ReadCall, read_left}
use Rattle.host.specs.Margin.{MarginCall, margin_left}
use Rattle.host.specs.Fresh.{FreshCall, fresh_left}
use Rattle.host.specs.Step.{StepCall, step_left}
use Rattle.host.specs.Line.{LineCall, line_left}
use Rattle.promise.specs.OneOutcome.{OneOutcome, CallsHaveOneOutcome}

-- what is left, read off the value that it is stated to be: two that state the same are the same
pub equation : {A B C : Type 0} (value : A → C) (stated : B → C) (back : C → B) → ((b : B) → back (stated b) ≡ b) → OneOutcome {A = A} {B = B} (λ a b. stated b ≡ value a)
equation value stated back reads a b c e f = sym (reads b) ∙ ap back (e ∙ sym f) ∙ reads c

pub calls_have_one_outcome : CallsHaveOneOutcome
calls_have_one_outcome =
    record {
      of_read = equation _ (λ b. read_left b.0 b.1.0 b.1.1) (λ (x : ReadCall). (x.number, (x.block, x.beside))) (λ b. refl);
      of_margin = equation _ (λ b. margin_left b.0 b.1) (λ (x : MarginCall). (x.number, x.margin)) (λ b. refl);
      of_fresh = equation _ (λ b. fresh_left b.0 b.1) (λ (x : FreshCall). (x.number, x.image)) (λ b. refl);
      of_step =
          equation _ (λ b. step_left b.0 b.1.0 b.1.1.0 b.1.1.1.0 b.1.1.1.1)
          (λ (x : StepCall). (x.number, (x.image, (x.subsystem, (x.running, x.ended))))) (λ b. refl);
      of_line = equation _ (λ b. line_left b.0 b.1.0 b.1.1.0 b.1.1.1) (λ (x : LineCall). (x.number, (x.image, (x.out, x.fill)))) (λ b. refl);
      of_record = equation _ (λ b. b) (λ x. x) (λ b. refl);
      of_lent = λ a b c e f. ap₂ (λ (r : Answer) (s : State). (r, s)) (e.0 ∙ sym f.0) (e.1 ∙ sym f.1);
    }
