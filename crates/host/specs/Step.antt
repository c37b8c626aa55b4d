-- "Calls from C": what skrzypolot_step leaves behind, of everything it is lent.
use Rattle.std.specs.Prelude.{true, false, List, ℕ, eqb}
use Rattle.step.specs.declared.Outcome.{Outcome}
use Rattle.step.specs.Step.{stepped}
use Rattle.image.specs.Block.{plan_of}
use Rattle.image.specs.Image.{state_of, image_of}
use Rattle.image.specs.Opening.{opened_number}

-- the number returned, the image, the subsystem, the task and the set of ended tasks, as the call leaves them
pub record StepCall : Type 0 where
  pub number : ℕ
  pub image : List ℕ
  pub subsystem : ℕ
  pub running : ℕ
  pub ended : ℕ

-- what a call returned and left behind
abbrev pub step_left : ℕ → List ℕ → ℕ → ℕ → ℕ → StepCall
step_left n image subsystem running ended = record { number = n; image = image; subsystem = subsystem; running = running; ended = ended }

-- an outcome, written where the host asked for it
unfoldable pub step_gives : Outcome → StepCall
step_gives o = step_left o.answer (image_of o.state) o.subsystem o.task o.ended

-- 34, 31 and 32 keep everything; otherwise the event's outcome
unfoldable pub step_call : List ℕ → List ℕ → ℕ → ℕ → ℕ → ℕ → ℕ → ℕ → StepCall
step_call block image kind task resource subsystem running ended =
    elim (eqb (opened_number block image) 0) [
      | true ↦ step_gives (stepped (plan_of block) (state_of image) kind task resource)
      | false ↦ step_left (opened_number block image) image subsystem running ended
    ]
