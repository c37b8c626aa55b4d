-- The ends of the call fresh.
use Rattle.std.proofs.Common.{◌≡◌, ℕ, Bool, true, false, List, length, eqb, Result, Ok, Err, refl, sym, ap, ◌∙◌, eq-eqb, ne_eqb}
use mathlib.Core.Bool.{and-false}
use Rattle.plan.specs.declared.Plan.{Plan}
use Rattle.state.specs.Fresh.{fresh}
use Rattle.image.specs.declared.Unopened.{Unopened}
use Rattle.image.specs.declared.Unopened.TheVariants.{Length, Block}
use Rattle.image.specs.Numbers.{number_of}
use Rattle.image.specs.Block.{block_bytes, is_block, plan_of}
use Rattle.image.specs.BlockCalls.{block_read}
use Rattle.image.specs.Image.{image_bytes, image_of}
use Rattle.image.specs.Opening.{both_long}
use Rattle.image.proofs.OpenedLaws.{is_read}
use Rattle.host.specs.Fresh.{FreshCall, fresh_left, fresh_call}

module _ (block image : List ℕ) where
  abbrev gives : Bool → Bool → FreshCall
  gives long is = elim long [ false ↦ fresh_left 34 image | true ↦ elim is [ false ↦ fresh_left 31 image | true ↦ fresh_left 0 (image_of (fresh (plan_of block))) ] ]

  by : (a b : Bool) → both_long block image ≡ a → is_block block ≡ b → gives a b ≡ fresh_call block image
  unfolding fresh_call
  by a b p q = ap (gives a) (sym q) ∙ ap (λ (x : Bool). gives x (is_block block)) (sym p)

  -- another length of the image: it is kept
  pub image_short : (length image ≡ image_bytes → ⊥) → fresh_left 34 image ≡ fresh_call block image
  unfolding both_long
  image_short h = by false _ (rw (ne_eqb (length image) image_bytes h) (and-false (eqb (length block) block_bytes))) refl

  module _ (full : length image ≡ image_bytes) {r : Result Plan Unopened} (reads : r ≡ block_read block) where
    -- a block that was refused: its number, and the image is kept
    pub block_refused : {e : Unopened} → r ≡ Err e → fresh_left (number_of e) image ≡ fresh_call block image
    unfolding block_read both_long number_of
    block_refused {e} h = go (eqb (length block) block_bytes) (is_block block) refl refl (sym reads ∙ h)
      where
        go : (long is : Bool) → eqb (length block) block_bytes ≡ long → is_block block ≡ is
            → ◌≡◌ {A = Result Plan Unopened} (elim long [ false ↦ Err Length | true ↦ elim is [ false ↦ Err Block | true ↦ Ok (plan_of block) ] ]) (Err e)
            → fresh_left (number_of e) image ≡ fresh_call block image
        go false is x y q = let same : e ≡ Length = cc in rw same (by false is (rw x) y)
        go true false x y q = let same : e ≡ Block = cc in rw same (by true false (rw (x, eq-eqb (length image) image_bytes full)) y)
        go true true x y q = cc

    -- a block: the image is that of its fresh state
    pub block_taken : {p : Plan} → r ≡ Ok p → fresh_left 0 (image_of (fresh p)) ≡ fresh_call block image
    unfolding both_long
    block_taken h =
        let x = is_read reads h in
        ap (λ (p : Plan). fresh_left 0 (image_of (fresh p))) x.plan ∙ by true true (rw (eq-eqb (length block) block_bytes x.long, eq-eqb (length image) image_bytes full)) x.is
