-- Laws of a whole event line: its line feed, its name, and what stands behind the name.
use Rattle.std.proofs.Common.{◌≡◌, ℕ, suc, ◌+◌, ◌<◌, ◌≤◌, List, [], ◌∷◌, Bool, true, false, length, take, drop, take_all, not-suc-le-zero, le_of_suc-le-suc, refl, arith}
use Rattle.std.specs.Prelude.{Some, None, eqb}
use Rattle.std.specs.Option.{option_and_then}
use borrow.Author.Tests.{eqb-true, eqb-false}
use Rattle.text.specs.Lines.{tab, line_feed, until, body, empty_or_none, fields}
use Rattle.text.specs.Numbers.{numbers}
use Rattle.text.proofs.Parted.{Parted, Whole}
use Rattle.text.proofs.Lines.{body_feed, body_whole, fields_tab, fields_whole}
use Rattle.step.specs.declared.Kind.{Kind}
use Rattle.line.specs.Event.{of_fields, event_of}
use Rattle.line.specs.Named.{kind_of, of_kind}
use Rattle.line.proofs.Names.{fields_kind, fields_other}
use Rattle.line.proofs.Parts.{found_there, found_none, found_le}

-- the line without its line feed: its name alone, or a name and rows
module _ {line : List ℕ} {m : ℕ} where
  pub read_alone : {kind : Kind} → kind_of (take m line) ≡ Some kind → Whole tab line → length line ≤ m
      → of_fields (fields line) ≡ option_and_then (of_kind kind) (numbers [])
  read_alone {kind} k w h =
      let e : kind_of line ≡ Some kind = rw (take_all m line h) at k in
      rw (fields_whole w) (fields_kind line [] e)

  pub read_rows : {kind : Kind} → kind_of (take m line) ≡ Some kind → Parted tab line m
      → of_fields (fields line) ≡ option_and_then (of_kind kind) (numbers (fields (drop (suc m) line)))
  read_rows k p = rw (fields_tab p) (fields_kind (take m line) _ k)

-- a name of no kind, whether anything stands behind it or not
pub read_other : (line : List ℕ) (m : ℕ) → m ≡ 0 + until tab line → kind_of (take m line) ≡ None → of_fields (fields line) ≡ None
read_other line m e k = go (eqb m (length line)) refl
  where
    go : (b : Bool) → eqb m (length line) ≡ b → of_fields (fields line) ≡ None
    go true q =
        let h = eqb-true m (length line) q in
        let o : kind_of line ≡ None = rw (take_all m line (omega arith)) at k in
        rw (fields_whole (found_none tab line m e h)) (fields_other line [] o)
    go false q = rw (fields_tab (found_there tab line m e (eqb-false m (length line) q))) (fields_other (take m line) _ k)

-- something behind the first line feed
body_more : {t : List ℕ} {m : ℕ} → Parted line_feed t m → suc m < length t → body t ≡ None
unfolding body empty_or_none
body_more (Parted.here {xs = []}) h = absurd (not-suc-le-zero (le_of_suc-le-suc h))
body_more (Parted.here {xs = x ∷ xs}) h = refl
body_more (Parted.on e p) h = rw (body, e, body_more p (le_of_suc-le-suc h))

-- a line that ends with its first line feed, and any other
module _ (line : List ℕ) (m : ℕ) (e : m ≡ 0 + until line_feed line) where
  body_one : m + 1 ≡ length line → body line ≡ Some (take m line)
  body_one h = rw (take_all (suc m) line (omega arith)) at (body_feed (found_there line_feed line m e (λ z. omega arith)))

  pub event_line : m + 1 ≡ length line → event_of line ≡ of_fields (fields (take m line))
  unfolding event_of
  event_line h = rw (event_of, body_one h)

  body_none : (m + 1 ≡ length line → ⊥) → body line ≡ None
  body_none n = go (eqb m (length line)) refl
    where
      go : (b : Bool) → eqb m (length line) ≡ b → body line ≡ None
      go true q = body_whole (found_none line_feed line m e (eqb-true _ _ q))
      go false q =
          let d = eqb-false m (length line) q in
          body_more (found_there line_feed line m e d) (omega (arith, found_le line_feed line m e, d, n))

  pub no_line : (m + 1 ≡ length line → ⊥) → event_of line ≡ None
  unfolding event_of
  no_line n = rw (event_of, body_none n)
