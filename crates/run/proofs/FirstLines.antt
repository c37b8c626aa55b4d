-- Laws of a piece line by line: its first line, what is left behind it, and when a loop over the lines stops.
use Rattle.std.proofs.Common.{◌≡◌, refl, sym, ap, ◌∙◌, Bool, true, false, List, [], ◌∷◌, ℕ, suc, ◌+◌, ◌≤◌, ◌<◌, add-one, arith, ltb, eqb, length, take, drop, take_all, length-take-le, ltb-true, ltb-false, eq-eqb}
use lib.Seq.{drop-length}
use Rattle.text.specs.Lines.{line_feed, until, lines}
use Rattle.text.proofs.Parted.{Parted, parted, whole}
use Rattle.text.proofs.Lines.{lines_feed, lines_whole}
use Rattle.plan.specs.declared.CeiledPlan.{CeiledPlan}
use Rattle.line.specs.Run.{line_gives}
use Rattle.run.specs.Stream.{At, keeping, is_going, line_done, fed_byte, fed}
use Rattle.run.specs.Fed.{first_line}
use Rattle.run.specs.Standing.{Stands}
use Rattle.run.proofs.LineSteps.{line_stands}

-- the first separator of a front that reaches up to it
parted_take : {b : ℕ} {t : List ℕ} {m : ℕ} → Parted b t m → Parted b (take (suc m) t) m
parted_take Parted.here = Parted.here
parted_take (Parted.on e p) = Parted.on e (parted_take p)

parted_until : {b : ℕ} {t : List ℕ} {m : ℕ} → Parted b t m → until b t ≡ m
unfolding until
parted_until {b} Parted.here = rw (until, eq-eqb b b refl)
parted_until (Parted.on e p) = rw (until, e) (ap suc (parted_until p))

-- the first line of a piece, with a line feed and without
module _ (t : List ℕ) where
  first_is : first_line t ≡ take (suc (until line_feed t)) t
  unfolding first_line
  first_is = ap (λ (k : ℕ). take k t) (add-one (until line_feed t))

  pub first_length : until line_feed t < length t → length (first_line t) ≡ suc (until line_feed t)
  first_length h = ap length first_is ∙ length-take-le (suc (until line_feed t)) t h

  pub first_ended : until line_feed t < length t → until line_feed (first_line t) + 1 ≡ length (first_line t)
  first_ended h =
      ap (λ (l : List ℕ). until line_feed l + 1) first_is
      ∙ ap (λ (k : ℕ). k + 1) (parted_until (parted_take (parted line_feed t h)))
      ∙ add-one (until line_feed t)
      ∙ sym (first_length h)

  pub first_whole : length t ≤ until line_feed t → first_line t ≡ t
  unfolding first_line
  first_whole h = take_all (until line_feed t + 1) t (omega arith)

  pub first_some : 1 ≤ length t → 1 ≤ length (first_line t)
  first_some h = go (ltb (until line_feed t) (length t)) refl
    where
      go : (b : Bool) → ltb (until line_feed t) (length t) ≡ b → 1 ≤ length (first_line t)
      go true e = rw (first_length (ltb-true _ _ e)) (omega arith)
      go false e = rw (first_whole (ltb-false _ _ e)) h

  pub first_within : length (first_line t) ≤ length t
  first_within = go (ltb (until line_feed t) (length t)) refl
    where
      go : (b : Bool) → ltb (until line_feed t) (length t) ≡ b → length (first_line t) ≤ length t
      go true e = rw (first_length (ltb-true _ _ e)) (ltb-true _ _ e)
      go false e = rw (first_whole (ltb-false _ _ e)) (omega arith)

  -- the lines are the first one and those behind it
  pub lines_first : 1 ≤ length t → lines t ≡ first_line t ∷ lines (drop (length (first_line t)) t)
  unfolding first_line lines
  lines_first h = go (ltb (until line_feed t) (length t)) refl
    where
      go : (b : Bool) → ltb (until line_feed t) (length t) ≡ b → lines t ≡ first_line t ∷ lines (drop (length (first_line t)) t)
      go true e = rw (first_length (ltb-true _ _ e), add-one) (lines_feed (parted line_feed t (ltb-true _ _ e)))
      go false e = rw (first_whole (ltb-false _ _ e), drop-length t) (lines_whole h (whole line_feed t (ltb-false _ _ e)))

-- a legal state stays legal, whatever is fed
module _ (c : CeiledPlan) where
  Stays : At → Type 0
  Stays x = Stands c x.state

  done_stays : (x : At) → Stays x → Stays (line_done c.plan x)
  unfolding Stays line_done
  done_stays x S = go (is_going x)
    where
      go : (b : Bool)
          → Stays
          (elim b [
            | true ↦ record { state = (line_gives c.plan x.state x.kept).state; number = x.number + 1; kept = [] }
            | false ↦ record { state = x.state; number = x.number; kept = [] }
          ])
      go true = line_stands c x.state S x.kept
      go false = S

  byte_stays : (x : At) (b : ℕ) → Stays x → Stays (fed_byte c.plan x b)
  unfolding Stays fed_byte keeping
  byte_stays x b S = go (eqb b line_feed)
    where
      go : (c₁ : Bool) → Stays (elim c₁ [ true ↦ line_done c.plan (keeping x (b ∷ [])) | false ↦ keeping x (b ∷ []) ])
      go true = done_stays (keeping x (b ∷ [])) S
      go false = S

  fed_stays : (x : At) (bs : List ℕ) → Stays x → Stays (fed c.plan x bs)
  unfolding fed
  fed_stays x [] S = S
  fed_stays x (b ∷ bs) S = fed_stays (fed_byte c.plan x b) bs (byte_stays x b S)

  pub fed_stands : (x : At) (bs : List ℕ) → Stands c x.state → Stands c (fed c.plan x bs).state
  unfolding Stays
  fed_stands x bs S = fed_stays x bs S
