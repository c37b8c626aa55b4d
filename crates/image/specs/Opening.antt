-- "Calls from C": what a block and an image lent together give: the first of 34, 31 and 32 that applies, or the plan with its ceilings and the state.
use Rattle.std.specs.Prelude.{Bool, true, false, ◌&&◌, cond, List, ℕ, Result, Ok, Err, eqb, length}
use Rattle.plan.specs.Ceiled.{ceiled}
use Rattle.state.specs.declared.State.{State}
use Rattle.image.specs.declared.Opened.{Opened}
use Rattle.image.specs.declared.Unopened.{Unopened}
use Rattle.image.specs.declared.Unopened.TheVariants.{Length, Block, Image}
use Rattle.image.specs.Block.{block_bytes, is_block, plan_of}
use Rattle.image.specs.Image.{image_bytes, is_image, state_of, image_of}

-- both buffers have their lengths
unfoldable pub both_long : List ℕ → List ℕ → Bool
both_long block image = eqb (length block) block_bytes && eqb (length image) image_bytes

-- 34, then 31, then 32; 0 if none applies
unfoldable pub opened_number : List ℕ → List ℕ → ℕ
opened_number block image =
    elim (both_long block image) [
      | false ↦ 34
      | true ↦ elim (is_block block) [ false ↦ 31 | true ↦ elim (is_image (plan_of block) image) [ false ↦ 32 | true ↦ 0 ] ]
    ]

-- plan, ceilings and state of the block of an accepted plan and the image of a legal state; anything else is refused
unfoldable pub opened : List ℕ → List ℕ → Result Opened Unopened
opened block image =
    elim (both_long block image) [
      | false ↦ Err Length
      | true ↦ elim (is_block block) [
        | false ↦ Err Block
        | true ↦ elim (is_image (plan_of block) image) [
          | false ↦ Err Image
          | true ↦ Ok (record { plan = ceiled (plan_of block); state = state_of image })
        ]
      ]
    ]

-- a buffer of the image's length is filled with the state's image, any other is kept
unfoldable pub image_written : State → List ℕ → List ℕ
image_written s image = cond (eqb (length image) image_bytes) (image_of s) image
