-- Keeping 20 bytes of a line changes no event: a line that is longer is none, and neither are bytes without a line feed.
use Rattle.std.proofs.Common.{◌≡◌, refl, ap, sym, ◌∙◌, Bool, true, false, List, [], ◌∷◌, ◌++◌, ℕ, zero, suc, ◌≤◌, arith, eqb, ltb, length, take, length-append, take_all, ltb-true, ltb-false}
use lib.Seq.{take-append-le}
use Rattle.text.specs.Lines.{line_feed, lines, onto}
use Rattle.text.proofs.Parted.{Whole}
use Rattle.text.proofs.Lines.{body_whole}
use Rattle.std.specs.Prelude.{None}
use Rattle.line.specs.Event.{event_of}
use Rattle.line.proofs.Long.{long_line}
use Rattle.run.specs.Stream.{most_kept}

-- what is kept of kept bytes and more
pub take_again : (n : ℕ) (l b : List ℕ) → take n (take n l ++ b) ≡ take n (l ++ b)
take_again zero l b = refl
take_again (suc n) [] b = refl
take_again (suc n) (x ∷ l) b = ap (λ (t : List ℕ). x ∷ t) (take_again n l b)

-- bytes without a line feed: a front of them, and one more
pub whole_take : {b : ℕ} (n : ℕ) {l : List ℕ} → Whole b l → Whole b (take n l)
whole_take zero w = Whole.end
whole_take (suc n) Whole.end = Whole.end
whole_take (suc n) (Whole.on e w) = Whole.on e (whole_take n w)

pub whole_snoc : {b : ℕ} (x : ℕ) {l : List ℕ} → Whole b l → eqb x b ≡ false → Whole b (l ++ (x ∷ []))
whole_snoc x Whole.end e = Whole.on e Whole.end
whole_snoc x (Whole.on f w) e = Whole.on f (whole_snoc x w e)

-- they are no event
pub no_event : {l : List ℕ} → Whole line_feed l → event_of l ≡ None
unfolding event_of
no_event w = rw (event_of, body_whole w)

-- a line that goes on for more than 20 bytes, and one that is whole within them
pub event_kept_whole : {l : List ℕ} → Whole line_feed l → event_of (take most_kept l) ≡ event_of l
event_kept_whole w = no_event (whole_take most_kept w) ∙ sym (no_event w)

pub event_kept : {l : List ℕ} → Whole line_feed l → event_of (take most_kept (l ++ (line_feed ∷ []))) ≡ event_of (l ++ (line_feed ∷ []))
event_kept {l} w = go (ltb 19 (length l)) refl
  where
    go : (b : Bool) → ltb 19 (length l) ≡ b → event_of (take most_kept (l ++ (line_feed ∷ []))) ≡ event_of (l ++ (line_feed ∷ []))
    go true t =
        let h : most_kept ≤ length l = omega (arith, ltb-true 19 (length l) t) in
        rw (take-append-le most_kept l (line_feed ∷ []) h)
        (no_event (whole_take most_kept w) ∙ sym (long_line (l ++ (line_feed ∷ [])) (omega (arith, length-append l (line_feed ∷ [])))))
    go false t = ap event_of (take_all most_kept (l ++ (line_feed ∷ [])) (omega (arith, ltb-false 19 (length l) t, length-append l (line_feed ∷ []))))

-- the lines of a text whose first line feed stands behind l
pub lines_line : {l : List ℕ} (t : List ℕ) → Whole line_feed l → lines (l ++ (line_feed ∷ t)) ≡ (l ++ (line_feed ∷ [])) ∷ lines t
unfolding lines onto
lines_line t Whole.end = refl
lines_line t (Whole.on e w) = rw (lines, e, lines_line t w)
