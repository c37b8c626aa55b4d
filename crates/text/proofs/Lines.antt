-- Laws of lines, of a line's body and of fields, by the first line feed or the first tab.
use Rattle.std.proofs.Common.{◌≡◌, refl, List, [], ◌∷◌, None, Some, ℕ, suc, ◌<◌, not-suc-le-zero, arith, length, take, drop}
use Rattle.text.specs.Lines.{onto, lines, body, empty_or_none, fields, tab, line_feed}
use Rattle.text.proofs.Parted.{Parted, Whole}

-- lines: the text up to its first line feed, then the lines behind it; without one, a single line
pub lines_feed : {t : List ℕ} {m : ℕ} → Parted line_feed t m → lines t ≡ take (suc m) t ∷ lines (drop (suc m) t)
unfolding lines onto
lines_feed Parted.here = refl
lines_feed (Parted.on e p) = rw (lines, e, lines_feed p)

pub lines_whole : {t : List ℕ} → 0 < length t → Whole line_feed t → lines t ≡ t ∷ []
unfolding lines onto
lines_whole h Whole.end = absurd (not-suc-le-zero h)
lines_whole h (Whole.on e Whole.end) = rw (lines, e)
lines_whole h (Whole.on e (Whole.on {x = y} {xs = ys} f w)) = rw (lines, e, lines_whole {t = y ∷ ys} (omega arith) (Whole.on f w))

-- the body of such a line is what stands before the line feed; a line without one has none
pub body_feed : {t : List ℕ} {m : ℕ} → Parted line_feed t m → body (take (suc m) t) ≡ Some (take m t)
unfolding body empty_or_none
body_feed Parted.here = refl
body_feed (Parted.on e p) = rw (body, e, body_feed p)

pub body_whole : {t : List ℕ} → Whole line_feed t → body t ≡ None
unfolding body
body_whole Whole.end = refl
body_whole (Whole.on e w) = rw (body, e, body_whole w)

-- fields: what stands before the first tab, then the fields behind it; without one, a single field
pub fields_tab : {t : List ℕ} {m : ℕ} → Parted tab t m → fields t ≡ take m t ∷ fields (drop (suc m) t)
unfolding fields onto
fields_tab Parted.here = refl
fields_tab (Parted.on e p) = rw (fields, e, fields_tab p)

pub fields_whole : {t : List ℕ} → Whole tab t → fields t ≡ t ∷ []
unfolding fields onto
fields_whole Whole.end = refl
fields_whole (Whole.on e w) = rw (fields, e, fields_whole w)
