-- Reading on over a part of a text: from the plan before it to the plan behind it.
use Rattle.std.proofs.Common.{◌≡◌, refl, ◌∙◌, false, List, [], ◌∷◌, ◌++◌, append_assoc, ℕ, zero, suc, ◌+◌, ◌≤◌, ◌<◌, lt-suc_self, arith, Option, Some, None, Result, Ok}
use native.Mathlib.Nat.{le_step}
use Rattle.text.specs.Lines.{lines}
use Rattle.plan.specs.declared.Plan.{Plan}
use Rattle.reader.specs.declared.refusals.Refusal.{Refusal}
use Rattle.reader.specs.declared.Line.{Line}
use Rattle.reader.specs.Line.{line_of, kind_of}
use Rattle.reader.specs.Conditions.{not_grammar, kind_order, too_many_rows, no_such_row, out_of_range, twice, two_subsystems, above_budget}
use Rattle.reader.specs.Reading.{first_of, judged, with_line, read_from}
use Rattle.exactly.specs.TextOf.{texts}

-- a reading goes on with the rest of a text, after a line of a kind up to k, from the plan p
pub record Onward (r : Result Plan Refusal) (rest : List ℕ) (k : ℕ) (p : Plan) : Type 0 where
  pub line : ℕ
  pub last : ℕ
  pub order : last ≤ k
  pub goes_on : r ≡ read_from (lines rest) line last p

-- whatever comes behind the text, reading it after a line of a kind up to i takes p to q, with kinds up to j
abbrev pub Reads : ℕ → ℕ → List ℕ → Plan → Plan → Type 0
Reads i j text p q = (rest : List ℕ) (n last : ℕ) → last ≤ i → Onward (read_from (lines (text ++ rest)) n last p) rest j q

pub reads_none : (i j : ℕ) (p q : Plan) → i ≤ j → p ≡ q → Reads i j [] p q
reads_none i j p q h e rest n last u = record { line = n; last = last; order = omega arith; goes_on = rw e }

pub reads_then : (i j k : ℕ) (a b : List ℕ) (p q r : Plan) → Reads i j a p q → Reads j k b q r → Reads i k (a ++ b) p r
reads_then i j k a b p q r f g rest n last h = go (f (b ++ rest) n last h)
  where
    go : Onward (read_from (lines (a ++ (b ++ rest))) n last p) (b ++ rest) j q → Onward (read_from (lines (a ++ b ++ rest)) n last p) rest k r
    go x =
        let y = g rest x.line x.last x.order in
        record { line = y.line; last = y.last; order = y.order; goes_on = rw (append_assoc a b rest) (x.goes_on ∙ y.goes_on) }

-- fewer kinds may come before
pub reads_after : (h i j : ℕ) (text : List ℕ) (p q : Plan) → h ≤ i → Reads i j text p q → Reads h j text p q
reads_after h i j text p q l f rest n last u = f rest n last (omega arith)

-- texts one behind the other, each from its plan to the next
pub reads_texts : (k n : ℕ) (f : ℕ → List ℕ) (P : ℕ → Plan) → ((i : ℕ) → i < n → Reads k k (f i) (P i) (P (suc i))) → Reads k k (texts n f) (P 0) (P n)
unfolding texts
reads_texts k zero f P h = reads_none k k (P 0) (P 0) (omega arith) refl
reads_texts k (suc n) f P h =
    reads_then k k k (texts n f) (f n) (P 0) (P n) (P (suc n)) (reads_texts k n f P (λ i u. h i (le_step u))) (h n (lt-suc_self n))

-- a line that passes every test
pub record Passes (p : Plan) (last : ℕ) (l : Option Line) : Type 0 where
  pub grammar : not_grammar l ≡ false
  pub order : kind_order last l ≡ false
  pub rows_left : too_many_rows p l ≡ false
  pub rows_there : no_such_row p l ≡ false
  pub range : out_of_range p l ≡ false
  pub once : twice p l ≡ false
  pub one_subsystem : two_subsystems p l ≡ false
  pub within : above_budget p l ≡ false

passes_judged : (p : Plan) (last n : ℕ) (l : Option Line) → Passes p last l → judged p last n l ≡ Ok tt
unfolding judged first_of
passes_judged p last n l w = rw (w.grammar, w.order, w.rows_left, w.rows_there, w.range, w.once, w.one_subsystem, w.within)

passes_read : (p : Plan) (last n : ℕ) (x : List ℕ) (xs : List (List ℕ)) → Passes p last (line_of x)
    → read_from (x ∷ xs) n last p ≡ read_from xs (n + 1) (kind_of (line_of x)) (with_line p (line_of x))
unfolding read_from
passes_read p last n x xs w = rw (passes_judged p last n (line_of x) w, read_from)

-- one line
pub reads_line : (k : ℕ) (text : List ℕ) (p q : Plan) (l : Option Line) → ((rest : List ℕ) → lines (text ++ rest) ≡ text ∷ lines rest) → line_of text ≡ l → kind_of l ≡ k
    → ((last : ℕ) → last ≤ k → Passes p last l) → with_line p l ≡ q → Reads k k text p q
reads_line k text p q l splits e kind w next rest n last h = record {
  line = n + 1;
  last = kind_of l;
  order = omega arith;
  goes_on = rw (splits rest, passes_read p last n text (lines rest) (rw e (w last h)), e, next);
}
