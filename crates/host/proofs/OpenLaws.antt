-- What is known once a block and an image were opened together.
use Rattle.std.proofs.Common.{◌≡◌, ℕ, Bool, true, false, List, length, Result, Ok, Err, refl, sym, ap, ◌∙◌, arith, eq-eqb, eqb-true}
use Rattle.below.proofs.Tests.{conjuncts}
use Rattle.plan.specs.Accepted.{accepted}
use Rattle.plan.specs.Ceiled.{ceiled}
use Rattle.state.specs.declared.State.{State}
use Rattle.legal.specs.Legal.{legal}
use Rattle.image.specs.declared.Opened.{Opened}
use Rattle.image.specs.declared.Unopened.{Unopened}
use Rattle.image.specs.declared.Unopened.TheVariants.{Length, Block, Image}
use Rattle.image.specs.Numbers.{number_of, number_in}
use Rattle.image.specs.Block.{is_block, plan_of}
use Rattle.image.specs.Image.{image_bytes, is_image, state_of, image_of}
use Rattle.image.specs.Opening.{both_long, opened_number, opened, image_written}
use Rattle.image.proofs.OpenedLaws.{opened_numbered}

-- an image of the right length is filled
pub image_filled : (s : State) (image : List ℕ) → length image ≡ image_bytes → image_written s image ≡ image_of s
unfolding image_written
image_filled s image h = rw (eq-eqb _ _ h)

-- no refusal has the number 0
pub refusal_some : (e : Unopened) → number_of e ≡ 0 → ⊥
unfolding number_of
refusal_some Length h = absurd (omega arith)
refusal_some Block h = absurd (omega arith)
refusal_some Image h = absurd (omega arith)

module _ (block image : List ℕ) where
  -- where nothing is refused
  pub record Opens (o : Opened) : Type 0 where
    pub number : opened_number block image ≡ 0
    pub full : length image ≡ image_bytes
    pub plan : o.plan ≡ ceiled (plan_of block)
    pub state : o.state ≡ state_of image
    pub is_accepted : accepted (plan_of block) ≡ true
    pub is_legal : legal (plan_of block) (state_of image) ≡ true

  module _ {r : Result Opened Unopened} (gives : r ≡ opened block image) where
    -- a refusal has the number of the first test that failed
    pub refused_number : {e : Unopened} → r ≡ Err e → number_of e ≡ opened_number block image
    unfolding number_in
    refused_number h = ap number_in (sym h ∙ gives) ∙ opened_numbered block image

    -- with no refusal come plan, ceilings and state, accepted and legal
    pub opens : {o : Opened} → r ≡ Ok o → Opens o
    unfolding opened both_long is_block is_image number_in
    opens {o} h = go (both_long block image) (is_block block) (is_image (plan_of block) image) refl refl refl (sym gives ∙ h)
      where
        go : (a b c : Bool) → both_long block image ≡ a → is_block block ≡ b → is_image (plan_of block) image ≡ c
            → ◌≡◌ {A = Result Opened Unopened} (elim a [
              | false ↦ Err Length
              | true ↦ elim b [ false ↦ Err Block | true ↦ elim c [ false ↦ Err Image | true ↦ Ok (record { plan = ceiled (plan_of block); state = state_of image }) ] ]
            ]) (Ok o)
            → Opens o
        go false b c p q t e = cc
        go true false c p q t e = cc
        go true true false p q t e = cc
        go true true true p q t e =
            let same : o ≡ record { plan = ceiled (plan_of block); state = state_of image } = cc in
            record {
              number = sym (opened_numbered block image) ∙ ap number_in (sym gives ∙ h);
              full = eqb-true (length image) image_bytes (search conjuncts);
              plan = ap (λ (x : Opened). x.plan) same;
              state = ap (λ (x : Opened). x.state) same;
              is_accepted = search conjuncts;
              is_legal = search conjuncts;
            }
