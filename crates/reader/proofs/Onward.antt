-- Laws of reading on: the next line of a text at a place, as the code finds it.
use mathlib.Core.Path.{◌≡◌, refl, sym, ap, ◌∙◌}
use mathlib.Core.List.{List, [], ◌∷◌}
use Prim.Native.Nat.{ℕ, suc, ◌+◌, ◌-◌, ◌≤◌, ◌<◌}
use native.Mathlib.Omega.{arith}
use lib.ListN.{length, take, drop, length-drop, drop_of_length-le}
use lib.Seq.{drop-drop}
use Rattle.text.specs.Lines.{until, lines, body, fields, line_feed}
use Rattle.text.proofs.Parted.{Parted, parted, whole}
use Rattle.text.proofs.Lines.{lines_feed, lines_whole, body_feed, body_whole}
use Rattle.plan.specs.declared.Plan.{Plan}
use Rattle.reader.specs.declared.refusals.Refusal.{Refusal}
use Rattle.reader.specs.declared.refusals.Refusal.TheVariants.{NotGrammar}
use Rattle.reader.specs.declared.Line.{Line}
use Rattle.reader.specs.Line.{of_fields, line_of, kind_of}
use Rattle.reader.specs.Conditions.{not_grammar}
use Rattle.reader.specs.Reading.{judged, with_line, read_from}
use Rattle.reader.proofs.Judged.{judged_grammar}
use Rattle.std.proofs.Common.{Option, Some, None, Ok, Err}

-- a line with its line feed is read as its body is, one without as nothing
line_ended : (l : List ℕ) {b : List ℕ} → body l ≡ Some b → line_of l ≡ of_fields (fields b)
unfolding line_of
line_ended l e = rw (line_of, e)

line_unended : (l : List ℕ) → body l ≡ None → line_of l ≡ None
unfolding line_of
line_unended l e = rw (line_of, e)

-- the first line decides whether there is a next
module _ (l : List ℕ) (ls : List (List ℕ)) (n last : ℕ) (p : Plan) {x : Option Line} (e : line_of l ≡ x) where
  read_bad : {v : Refusal} → judged p last n x ≡ Err v → read_from (l ∷ ls) n last p ≡ Err v
  unfolding read_from
  read_bad a = rw (read_from, e, a)

  read_next : {u : Unit} → judged p last n x ≡ Ok u → read_from (l ∷ ls) n last p ≡ read_from ls (n + 1) (kind_of x) (with_line p x)
  unfolding read_from
  read_next a = rw (read_from, e, a) (rw e)

-- as the code has it: the line at a place ends at the line feed that was found
module _ (text : List ℕ) (at end : ℕ) (e : end ≡ at + until line_feed (drop at text)) (n last : ℕ) (p : Plan) where
  pub read_unended : at < length text → length text ≤ end → read_from (lines (drop at text)) n last p ≡ Err (NotGrammar n)
  unfolding not_grammar
  read_unended h u =
      let s = length-drop at text in
      let w = whole line_feed (drop at text) (omega arith) in
      rw (lines_whole (omega arith) w)
      (read_bad (drop at text) [] n last p (line_unended (drop at text) (body_whole w)) (judged_grammar p last n None refl))

  module _ (u : end < length text) {x : Option Line} (f : x ≡ of_fields (fields (take (end - at) (drop at text)))) where
    abbrev line : List ℕ
    line = take (suc (until line_feed (drop at text))) (drop at text)

    feed_found : Parted line_feed (drop at text) (until line_feed (drop at text))
    feed_found = parted line_feed (drop at text) (omega (arith, length-drop at text))

    lines_at : lines (drop at text) ≡ line ∷ lines (drop (end + 1) text)
    lines_at =
        let q : at + suc (until line_feed (drop at text)) ≡ end + 1 = omega arith in
        lines_feed feed_found ∙ ap (λ (r : List ℕ). line ∷ lines r) (drop-drop _ at text ∙ ap (λ (k : ℕ). drop k text) q)

    line_at : line_of line ≡ x
    line_at =
        let q : until line_feed (drop at text) ≡ end - at = omega arith in
        line_ended line (body_feed feed_found) ∙ ap (λ (k : ℕ). of_fields (fields (take k (drop at text)))) q ∙ sym f

    pub read_refused : {v : Refusal} → judged p last n x ≡ Err v → read_from (lines (drop at text)) n last p ≡ Err v
    read_refused a = rw lines_at (read_bad line _ n last p line_at a)

    pub read_malformed : x ≡ None → read_from (lines (drop at text)) n last p ≡ Err (NotGrammar n)
    unfolding not_grammar
    read_malformed z = read_refused (judged_grammar p last n x (rw z))

    pub read_onward : {u : Unit} → judged p last n x ≡ Ok u
        → read_from (lines (drop at text)) n last p ≡ read_from (lines (drop (end + 1) text)) (n + 1) (kind_of x) (with_line p x)
    read_onward a = rw lines_at (read_next line _ n last p line_at a)

-- past the last line
pub read_ended : (text : List ℕ) (at n last : ℕ) (p : Plan) → length text ≤ at → read_from (lines (drop at text)) n last p ≡ Ok p
unfolding read_from lines
read_ended text at n last p h = rw (drop_of_length-le text h)
