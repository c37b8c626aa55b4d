-- "Calls from C": what skrzypolot_fresh leaves behind, of everything it is lent.
use Rattle.std.specs.Prelude.{true, false, List, ℕ}
use Rattle.state.specs.Fresh.{fresh}
use Rattle.image.specs.Block.{is_block, plan_of}
use Rattle.image.specs.Image.{image_of}
use Rattle.image.specs.Opening.{both_long}

-- the number returned and the image, as the call leaves them
pub record FreshCall : Type 0 where
  pub number : ℕ
  pub image : List ℕ

-- what a call returned and left behind
abbrev pub fresh_left : ℕ → List ℕ → FreshCall
fresh_left n image = record { number = n; image = image }

-- 0 and the image of the fresh state; or 34 or 31 with the image as it was
unfoldable pub fresh_call : List ℕ → List ℕ → FreshCall
fresh_call block image =
    elim (both_long block image) [
      | false ↦ fresh_left 34 image
      | true ↦ elim (is_block block) [ false ↦ fresh_left 31 image | true ↦ fresh_left 0 (image_of (fresh (plan_of block))) ]
    ]
