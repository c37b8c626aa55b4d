-- The three ends of the call line.
use Rattle.std.proofs.Common.{◌≡◌, ℕ, ◌+◌, Bool, true, false, List, length, Option, Some, None, refl, sym, ap, ◌∙◌, ne_eqb}
use Rattle.plan.specs.declared.CeiledPlan.{CeiledPlan}
use Rattle.state.specs.declared.State.{State}
use Rattle.step.specs.declared.Outcome.{Outcome}
use Rattle.image.specs.declared.Opened.{Opened}
use Rattle.image.specs.Block.{plan_of}
use Rattle.image.specs.Image.{image_bytes}
use Rattle.image.specs.Opening.{opened_number, image_written}
use Rattle.line.specs.Printed.{printed}
use Rattle.line.specs.Filled.{has_room, out_after}
use Rattle.line.specs.Run.{line_gives}
use Rattle.run.specs.declared.Lined.{Lined}
use Rattle.run.specs.Lined.{lined_by, lined_state_by, lined, lined_state, lined_out}
use Rattle.host.specs.Line.{line_left, line_put, line_call}
use Rattle.host.proofs.OpenLaws.{Opens, image_filled}

-- whether the printed line has room
module _ (s : State) (n : ℕ) (o : Outcome) (image out : List ℕ) (fill : ℕ) where
  put_none : lined_by n o out fill ≡ None → line_left 33 image (out_after out fill (printed n o)) fill ≡ line_put o n image out fill
  unfolding lined_by out_after line_put
  put_none e = go (has_room out fill (printed n o)) refl
    where
      go : (b : Bool) → has_room out fill (printed n o) ≡ b → line_left 33 image (out_after out fill (printed n o)) fill ≡ line_put o n image out fill
      go true h = let no = rw (lined_by, h) at e in cc
      go false h = rw (out_after, line_put, h)

  put_room : (l : Lined) → length image ≡ image_bytes → lined_by n o out fill ≡ Some l
      → line_left l.answer (image_written (lined_state_by s n o out fill) image) (out_after out fill (printed n o)) l.fill ≡ line_put o n image out fill
  unfolding lined_by lined_state_by line_put
  put_room l full e = go (has_room out fill (printed n o)) refl
    where
      go : (b : Bool) → has_room out fill (printed n o) ≡ b
          → line_left l.answer (image_written (lined_state_by s n o out fill) image) (out_after out fill (printed n o)) l.fill ≡ line_put o n image out fill
      go true h =
          let same = rw (lined_by, h) at e in
          let is : l ≡ record { answer = o.answer; fill = fill + length (printed n o) } = cc in
          rw (lined_state_by, line_put, h, is, image_filled o.state image full)
      go false h = let no = rw (lined_by, h) at e in cc

module _ (block image : List ℕ) (n : ℕ) (line out : List ℕ) (fill : ℕ) where
  -- 34, 31, 32: everything is kept
  pub line_refused : (m : ℕ) → m ≡ opened_number block image → (m ≡ 0 → ⊥) → line_left m image out fill ≡ line_call block image n line out fill
  unfolding line_call
  line_refused m e h = rw (line_call, ← e, ne_eqb m 0 h) (ap (λ k. line_left k image out fill) e)

  module _ {o : Opened} (x : Opens block image o) {l : Option Lined} {t : State} {after : List ℕ}
      (e : (l ≡ lined o.plan.plan o.state n line out fill) × (t ≡ lined_state o.plan.plan o.state n line out fill) × (after ≡ lined_out o.plan.plan o.state n line out fill)) where
    -- what is opened decides
    opened_line : line_put (line_gives o.plan.plan o.state line) n image out fill ≡ line_call block image n line out fill
    unfolding line_call
    opened_line =
        let plan : o.plan.plan ≡ plan_of block = ap (λ (c : CeiledPlan). c.plan) x.plan in
        rw (line_call, x.number, ← plan, ← x.state)

    -- 33
    pub line_none : l ≡ None → line_left 33 image after fill ≡ line_call block image n line out fill
    unfolding lined lined_out
    line_none h = rw e.2 (put_none o.state n (line_gives o.plan.plan o.state line) image out fill (sym e.0 ∙ h) ∙ opened_line)

    -- the outcome of the line
    pub line_done : (p : Lined) → l ≡ Some p → line_left p.answer (image_written t image) after p.fill ≡ line_call block image n line out fill
    unfolding lined lined_state lined_out
    line_done p h = rw (e.1, e.2) (put_room o.state n (line_gives o.plan.plan o.state line) image out fill p x.full (sym e.0 ∙ h) ∙ opened_line)
