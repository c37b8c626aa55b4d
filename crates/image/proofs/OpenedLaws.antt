-- The ends of opening a block with an image, and what is known of what was read.
use Rattle.std.proofs.Common.{◌≡◌, ℕ, ◌<◌, Bool, true, false, List, length, get_or, eqb, Result, Ok, Err, refl, sym, ap, ap₂, ◌∙◌, eqb-true, eq-eqb, ne_eqb}
use mathlib.Core.Bool.{and-false}
use Rattle.below.specs.Listed.{listed}
use Rattle.below.proofs.Tests.{and_left}
use Rattle.plan.specs.declared.Plan.{Plan}
use Rattle.plan.specs.declared.CeiledPlan.{CeiledPlan}
use Rattle.plan.specs.Accepted.{accepted}
use Rattle.plan.specs.Ceiling.{ceiling}
use Rattle.plan.specs.Ceiled.{ceiled}
use Rattle.state.specs.declared.State.{State}
use Rattle.legal.specs.Legal.{legal}
use Rattle.image.specs.declared.Unopened.{Unopened}
use Rattle.image.specs.declared.Unopened.TheVariants.{Length, Block, Image}
use Rattle.image.specs.declared.Opened.{Opened}
use Rattle.image.specs.Numbers.{number_of, number_in}
use Rattle.image.specs.Block.{block_bytes, plan_of, is_block}
use Rattle.image.specs.BlockCalls.{block_read}
use Rattle.image.specs.Image.{image_bytes, state_of, is_image}
use Rattle.image.specs.Pads.{pads_zero}
use Rattle.image.specs.Opening.{both_long, opened_number, opened}
use Rattle.image.proofs.ImageReads.{is_image_lem}

-- the plan of an accepted block
pub block_accepted : (b : List ℕ) → is_block b ≡ true → accepted (plan_of b) ≡ true
unfolding is_block
block_accepted b e = and_left (accepted (plan_of b)) _ e

-- what is known of a block that was read
pub record IsRead (b : List ℕ) (p : Plan) : Type 0 where
  pub long : length b ≡ block_bytes
  pub is : is_block b ≡ true
  pub plan : p ≡ plan_of b

pub is_read : {b : List ℕ} {p : Plan} {r : Result Plan Unopened} → r ≡ block_read b → r ≡ Ok p → IsRead b p
unfolding block_read
is_read {b} {p} {r} e f = go (eqb (length b) block_bytes) (is_block b) refl refl (sym e ∙ f)
  where
    go : (long is : Bool) → eqb (length b) block_bytes ≡ long → is_block b ≡ is
        → ◌≡◌ {A = Result Plan Unopened} (elim long [ false ↦ Err Length | true ↦ elim is [ false ↦ Err Block | true ↦ Ok (plan_of b) ] ]) (Ok p) → IsRead b p
    go false is x y q = cc
    go true false x y q = cc
    go true true x y q = record { long = eqb-true _ _ x; is = y; plan = cc }

-- what opening a block with an image gives, by the three tests
module _ (block image : List ℕ) where
  abbrev chosen : Bool → Bool → Bool → Result Opened Unopened
  chosen long is legal =
      elim long [
        | false ↦ Err Length
        | true ↦ elim is [
          | false ↦ Err Block
          | true ↦ elim legal [ false ↦ Err Image | true ↦ Ok (record { plan = ceiled (plan_of block); state = state_of image }) ]
        ]
      ]

  opened_by : (a b c : Bool) → both_long block image ≡ a → is_block block ≡ b → is_image (plan_of block) image ≡ c → chosen a b c ≡ opened block image
  unfolding opened
  opened_by a b c p q r = sym (ap (λ (x : Bool). chosen x (is_block block) (is_image (plan_of block) image)) p ∙ ap₂ (λ (x y : Bool). chosen a x y) q r)

  -- its number is the one that "Calls from C" says
  pub opened_numbered : number_in (opened block image) ≡ opened_number block image
  unfolding opened opened_number number_in number_of
  opened_numbered = go (both_long block image) (is_block block) (is_image (plan_of block) image)
    where
      go : (a b c : Bool) → number_in (chosen a b c) ≡ elim a [ false ↦ 34 | true ↦ elim b [ false ↦ 31 | true ↦ elim c [ false ↦ 32 | true ↦ 0 ] ] ]
      go false b c = refl
      go true false c = refl
      go true true false = refl
      go true true true = refl

  -- an image of the wrong length, whatever the block
  pub short_image : (length image ≡ image_bytes → ⊥) → Err Length ≡ opened block image
  unfolding both_long
  short_image h = opened_by false _ _ (rw (ne_eqb (length image) image_bytes h) (and-false (eqb (length block) block_bytes))) refl refl

  -- and a block of the wrong length, whatever the image
  pub short_block : (length block ≡ block_bytes → ⊥) → Err Length ≡ opened block image
  unfolding both_long
  short_block h = opened_by false _ _ (rw (ne_eqb (length block) block_bytes h) refl) refl refl

  module _ (full : length image ≡ image_bytes) where
    -- a block that is not read
    pub no_block : {r : Result Plan Unopened} {e : Unopened} → r ≡ block_read block → r ≡ Err e → Err e ≡ opened block image
    unfolding block_read both_long
    no_block {r} {e} f g = go (eqb (length block) block_bytes) (is_block block) refl refl (sym f ∙ g)
      where
        go : (long is : Bool) → eqb (length block) block_bytes ≡ long → is_block block ≡ is
            → ◌≡◌ {A = Result Plan Unopened} (elim long [ false ↦ Err Length | true ↦ elim is [ false ↦ Err Block | true ↦ Ok (plan_of block) ] ]) (Err e)
            → Err e ≡ opened block image
        go false is x y q = let same : e ≡ Length = cc in rw same (opened_by false is _ (rw x) y refl)
        go true false x y q = let same : e ≡ Block = cc in rw same (opened_by true false _ (rw (x, eq-eqb (length image) image_bytes full)) y refl)
        go true true x y q = cc

    module _ {p : Plan} (R : IsRead block p) (small : (k : ℕ) → get_or image k 0 < 256) where
      both : both_long block image ≡ true
      unfolding both_long
      both = rw (eq-eqb (length block) block_bytes R.long, eq-eqb (length image) image_bytes full)

      no_image : is_image (plan_of block) image ≡ false → Err Image ≡ opened block image
      no_image f = opened_by true true false both R.is f

      tested : {c : CeiledPlan} {s : State} {r : Bool} → c ≡ ceiled p → s ≡ state_of image
          → (accepted c.plan ≡ true → c.ceilings ≡ listed 16 (ceiling c.plan) → r ≡ legal c.plan s) → r ≡ legal (plan_of block) (state_of image)
      tested {c} {s} {r} ec es t =
          let plan : c.plan ≡ plan_of block = ap (λ (x : CeiledPlan). x.plan) ec ∙ R.plan in
          t (ap accepted plan ∙ block_accepted block R.is) (ap (λ (x : CeiledPlan). x.ceilings) ec ∙ ap (λ (x : Plan). listed 16 (ceiling x)) (sym (ap (λ (x : CeiledPlan). x.plan) ec)))
          ∙ ap₂ legal plan es

      -- an image that has a byte that is no state's
      pub padded : {z : Bool} → z ≡ pads_zero image → z ≡ false → Err Image ≡ opened block image
      padded e f =
          let no : pads_zero image ≡ false = sym e ∙ f in
          no_image (is_image_lem image full small (plan_of block) ∙ rw no (and-false (legal (plan_of block) (state_of image))))

      module _ {z : Bool} (pads : z ≡ pads_zero image) (clear : z ≡ true) {c : CeiledPlan} {s : State} {r : Bool} (ec : c ≡ ceiled p) (es : s ≡ state_of image)
          (t : accepted c.plan ≡ true → c.ceilings ≡ listed 16 (ceiling c.plan) → r ≡ legal c.plan s) where
        -- a state that is not legal
        pub not_legal : r ≡ false → Err Image ≡ opened block image
        not_legal f =
            let no : legal (plan_of block) (state_of image) ≡ false = sym (tested ec es t) ∙ f in
            no_image (is_image_lem image full small (plan_of block) ∙ rw no)

        -- and one that is
        pub both_opened : r ≡ true → Ok (record { plan = c; state = s }) ≡ opened block image
        both_opened u =
            let yes : legal (plan_of block) (state_of image) ≡ true = sym (tested ec es t) ∙ u in
            let zero : pads_zero image ≡ true = sym pads ∙ clear in
            rw (ec, es, R.plan) (opened_by true true true both R.is (is_image_lem image full small (plan_of block) ∙ rw (yes, zero)))
