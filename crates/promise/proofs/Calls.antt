-- "Calls from C": on a block that writes an accepted plan and the image of a legal state, the calls give what the rules say, and leave such an image.
use mathlib.Core.Path.{◌≡◌, refl, ap}
use mathlib.Core.List.{List, [], ◌∷◌, map}
use Prim.Native.Nat.{ℕ}
use lib.ListN.{length}
use borrow.Author.Tests.{eq-eqb}
use Rattle.plan.specs.declared.Plan.{Plan}
use Rattle.plan.proofs.Facts.{accepted_facts}
use Rattle.state.specs.declared.State.{State}
use Rattle.state.specs.Fresh.{fresh}
use Rattle.legal.proofs.Facts.{facts_legal}
use Rattle.step.specs.Step.{stepped}
use Rattle.step.proofs.Kept.{Kept}
use Rattle.step.proofs.Stepped.{stepped_kept}
use Rattle.image.specs.Image.{image_bytes, image_of}
use Rattle.image.specs.Opening.{both_long, opened_number}
use Rattle.image.proofs.ImageLaws.{image_length, image_back}
use Rattle.image.proofs.ImageExactly.{image_is}
use Rattle.host.specs.Fresh.{fresh_left, fresh_call}
use Rattle.host.specs.Step.{StepCall, step_gives, step_call}
use Rattle.promise.specs.Budgets.{Event, outcomes}
use Rattle.promise.specs.BudgetsInC.{step_calls}
use Rattle.promise.proofs.Scheduler.{given}
use Rattle.promise.proofs.Lent.{Lent}

module _ (p : Plan) (b : List ℕ) (L : Lent p b) where
  -- a fresh image is made in any buffer of its length
  pub fresh_given : (image : List ℕ) → length image ≡ image_bytes → fresh_call b image ≡ fresh_left 0 (image_of (fresh p))
  unfolding fresh_call both_long
  fresh_given image h = rw (eq-eqb _ _ L.long, eq-eqb _ _ h, L.block, L.plan, fresh_call, both_long)

  module _ (s : State) (S : Kept p s) where
    -- none of 34, 31 and 32 applies
    opens : opened_number b (image_of s) ≡ 0
    unfolding opened_number both_long
    opens =
        rw (
          eq-eqb _ _ L.long,
          eq-eqb _ _ (image_length s),
          L.block,
          L.plan,
          image_is p s S.sized (facts_legal p s S.legal),
          opened_number,
          both_long,
        )

    -- a step gives the event's outcome
    step_given : (kind k r x y z : ℕ) → step_call b (image_of s) kind k r x y z ≡ step_gives (stepped p s kind k r)
    unfolding step_call
    step_given kind k r x y z = rw (opens, L.plan, image_back s S.sized, step_call)

  -- so do the steps of a run
  calls_next : (s : State) (e : Event) (es : List Event) (c : StepCall) → c ≡ step_gives (given p s e)
      → (c.image ≡ image_of (given p s e).state → step_calls b c es ≡ map step_gives (outcomes (stepped p) (given p s e).state es))
      → ◌≡◌ {A = List StepCall} (c ∷ step_calls b c es) (map step_gives (given p s e ∷ outcomes (stepped p) (given p s e).state es))
  unfolding step_gives
  calls_next s e es c q rest = rw (rest (ap (λ d. d.image) q)) (ap (λ d. d ∷ map step_gives (outcomes (stepped p) (given p s e).state es)) q)

  pub calls_given : (s : State) → Kept p s → (before : StepCall) → before.image ≡ image_of s → (es : List Event)
      → step_calls b before es ≡ map step_gives (outcomes (stepped p) s es)
  unfolding step_calls outcomes
  calls_given s S before i [] = refl
  calls_given s S before i (e ∷ es) =
      calls_next s e es _ (rw i (step_given s S e.kind e.task e.resource before.subsystem before.running before.ended))
      (λ j. calls_given (given p s e).state (stepped_kept p s (accepted_facts p L.accepts) S e.task e.resource e.kind) _ j es)
