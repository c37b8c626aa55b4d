-- "Calls from C": what skrzypolot_line leaves behind, of everything it is lent.
use Rattle.std.specs.Prelude.{true, false, List, ℕ, ◌+◌, eqb, length}
use Rattle.step.specs.declared.Outcome.{Outcome}
use Rattle.image.specs.Block.{plan_of}
use Rattle.image.specs.Image.{state_of, image_of}
use Rattle.image.specs.Opening.{opened_number}
use Rattle.line.specs.Printed.{printed}
use Rattle.line.specs.Filled.{has_room, out_after}
use Rattle.line.specs.Run.{line_gives}

-- the number returned, the image, the output buffer and its fill, as the call leaves them
pub record LineCall : Type 0 where
  pub number : ℕ
  pub image : List ℕ
  pub out : List ℕ
  pub fill : ℕ

-- what a call returned and left behind
abbrev pub line_left : ℕ → List ℕ → List ℕ → ℕ → LineCall
line_left n image out fill = record { number = n; image = image; out = out; fill = fill }

-- an outcome with its printed line behind the fill; 33, where that has no room, keeps everything
unfoldable pub line_put : Outcome → ℕ → List ℕ → List ℕ → ℕ → LineCall
line_put o n image out fill =
    elim (has_room out fill (printed n o)) [
      | true ↦ line_left o.answer (image_of o.state) (out_after out fill (printed n o)) (fill + length (printed n o))
      | false ↦ line_left 33 image out fill
    ]

-- 34, 31 and 32 keep everything; otherwise the outcome of the line
unfoldable pub line_call : List ℕ → List ℕ → ℕ → List ℕ → List ℕ → ℕ → LineCall
line_call block image n line out fill =
    elim (eqb (opened_number block image) 0) [
      | true ↦ line_put (line_gives (plan_of block) (state_of image) line) n image out fill
      | false ↦ line_left (opened_number block image) image out fill
    ]
