-- 32, exactly: an image is refused where its length is right and it is the image of no legal state.
use Rattle.std.proofs.Common.{◌≡◌, refl, sym, ap, ◌∙◌, Bool, true, false, List, ℕ, arith, eqb, length, eqb-true, eq-eqb}
use Rattle.below.proofs.Tests.{clash, and_left, and_right}
use Rattle.plan.specs.declared.Plan.{Plan}
use Rattle.state.specs.declared.State.{State}
use Rattle.state.specs.Sized.{Sized}
use Rattle.legal.specs.Legal.{legal}
use Rattle.image.specs.Image.{image_bytes, image_of, state_of, is_image, image_number}
use Rattle.image.specs.HasState.{HasState}
use Rattle.image.proofs.BlockLaws.{same_refl, same_true}
use Rattle.image.proofs.ImageLaws.{image_back}
use Rattle.image.proofs.ImageReads.{state_of_sized}

-- the image of a legal state passes the test
pub image_is : (p : Plan) (s : State) → Sized s → legal p s ≡ true → is_image p (image_of s) ≡ true
unfolding is_image
image_is p s sized l = rw (image_back s sized, l) (same_refl (image_of s))

module _ (p : Plan) (b : List ℕ) where
  -- what passes is the image of the state that it reads as
  pub image_has_state : is_image p b ≡ true → HasState p b
  unfolding is_image
  image_has_state e =
      record {
        state = state_of b;
        sized = state_of_sized b;
        is_legal = and_left (legal p (state_of b)) _ e;
        writes = same_true (image_of (state_of b)) b (and_right (legal p (state_of b)) _ e);
      }

  pub state_is_image : HasState p b → is_image p b ≡ true
  state_is_image h = ap (is_image p) (sym h.writes) ∙ image_is p h.state h.sized h.is_legal

  -- 32 exactly when the length is right and no legal state has the image
  pub image_refused_exactly :
      (image_number p b ≡ 32 → (length b ≡ image_bytes) × (HasState p b → ⊥)) × (length b ≡ image_bytes → (HasState p b → ⊥) → image_number p b ≡ 32)
  unfolding image_number
  image_refused_exactly = (λ q. only (eqb (length b) image_bytes) (is_image p b) refl refl q, λ l n. back l n (is_image p b) refl)
    where
      picked : Bool → Bool → ℕ
      picked long is = elim long [ false ↦ 34 | true ↦ elim is [ false ↦ 32 | true ↦ 0 ] ]

      only : (long is : Bool) → eqb (length b) image_bytes ≡ long → is_image p b ≡ is → picked long is ≡ 32 → (length b ≡ image_bytes) × (HasState p b → ⊥)
      only true false e f q = (eqb-true _ _ e, λ h. clash (state_is_image h) f)
      only true true e f q = absurd (omega arith)
      only false is e f q = absurd (omega arith)

      back : length b ≡ image_bytes → (HasState p b → ⊥) → (is : Bool) → is_image p b ≡ is → picked (eqb (length b) image_bytes) is ≡ 32
      back l n true e = absurd (n (image_has_state e))
      back l n false e = ap (λ (t : Bool). picked t false) (eq-eqb _ _ l)
