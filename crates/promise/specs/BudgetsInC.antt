-- Demand 3 over the calls from C: a plan text that is read, a fresh image on its block, and any numbers given to one step after the other.
use Rattle.std.specs.Prelude.{◌≡◌, List, [], ◌∷◌, map, ℕ, ◌<◌, length, Ok}
use Rattle.supply.specs.Charges.{count}
use Rattle.plan.specs.declared.Plan.{Plan}
use Rattle.reader.specs.Reading.{reading}
use Rattle.image.specs.Image.{image_bytes}
use Rattle.host.specs.Read.{read_call}
use Rattle.host.specs.Fresh.{fresh_call}
use Rattle.host.specs.Step.{StepCall, step_left, step_call}
use Rattle.promise.specs.Budgets.{Event, of_ticks, GetsBudget}

-- "Calls from C": steps on a block, one after the other, each on the image and the numbers behind pointers that the call before left
unfoldable pub step_calls : List ℕ → StepCall → List Event → List StepCall
step_calls block before [] = []
step_calls block before (e ∷ es) =
    let c = step_call block before.image e.kind e.task e.resource before.subsystem before.running before.ended in
    c ∷ step_calls block c es

-- the subsystem that each call with kind 4 names
unfoldable pub tick_answers_in_c : List Event → List StepCall → List ℕ
tick_answers_in_c es cs = of_ticks es (map (λ c. c.subsystem) cs)

-- demand 3 for a plan, and no call of the run is refused for a buffer, the block or the image
pub record CallsExact (p : Plan) (es : List Event) (cs : List StepCall) : Type 0 where
  pub budgets : (s : ℕ) → s < p.subsystems → GetsBudget p (tick_answers_in_c es cs) s
  pub never_31 : count 31 (map (λ c. c.number) cs) ≡ 0
  pub never_32 : count 32 (map (λ c. c.number) cs) ≡ 0
  pub never_34 : count 34 (map (λ c. c.number) cs) ≡ 0

-- a host that lends a block and an image: the image is made, and the run on it keeps demand 3, whatever stood behind the pointers at first
pub record HostExact (p : Plan) (block image : List ℕ) : Type 0 where
  pub starts : (fresh_call block image).number ≡ 0
  pub runs : (subsystem running ended : ℕ) (es : List Event)
      → CallsExact p es (step_calls block (step_left 0 (fresh_call block image).image subsystem running ended) es)

-- a text that was read: its plan, and the run on the block that was written for it, with any buffer of an image's length
pub record ReadExact (text block : List ℕ) : Type 0 where
  pub plan : Plan
  pub reads : reading text ≡ Ok plan
  pub runs : (image : List ℕ) → length image ≡ image_bytes → HostExact plan block image

-- demand 3 in C: for every text that the reader accepts, the block it wrote and any buffer of an image's length
abbrev pub BudgetsExactInC : Type 0
BudgetsExactInC =
    (text buffer : List ℕ) (beside : ℕ) → (read_call text buffer beside).number ≡ 0 → ReadExact text (read_call text buffer beside).block
