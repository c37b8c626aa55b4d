-- "The run program": an event file in pieces is answered as its whole text is, however it is cut.
use Rattle.std.proofs.Common.{◌≡◌, refl, ap, sym, ◌∙◌, Bool, true, false, List, [], ◌∷◌, ◌++◌, append-nil, append_assoc, ℕ, zero, suc, ◌+◌, ◌-◌, arith, eqb, leb, take, leb-true, leb-false, eqb-true}
use lib.Seq.{append_snoc, take-nil}
use Rattle.text.specs.Lines.{line_feed, lines}
use Rattle.text.proofs.Parted.{Whole}
use Rattle.text.proofs.Lines.{lines_whole}
use Rattle.plan.specs.declared.Plan.{Plan}
use Rattle.state.specs.declared.State.{State}
use Rattle.line.specs.Printed.{printed}
use Rattle.line.specs.Run.{most_lines, line_gives, event_gives, outcomes, printed_from, printed_run}
use Rattle.run.specs.AsFar.{in_one}
use Rattle.run.specs.Stream.{At, most_kept, start, keeping, is_going, line_done, line_printed, fed_byte, byte_printed, fed, fed_printed, end_printed, pieces_printed}
use Rattle.run.proofs.Keeping.{take_again, whole_snoc, event_kept, event_kept_whole, lines_line}
use Rattle.run.proofs.Going.{done_going, printed_going, done_over, printed_over, byte_on, byte_quiet, fed_append, printed_append}

-- what is printed of a text, from where a run stands to its end
unfoldable pub text_printed : Plan → At → List ℕ → List ℕ
text_printed p x t = fed_printed p x t ++ end_printed p (fed p x t)

-- only the joined text matters
pub pieces_joined : (p : Plan) (x : At) (bs : List (List ℕ)) → pieces_printed p x bs ≡ text_printed p x (in_one bs)
unfolding pieces_printed in_one text_printed fed fed_printed
pieces_joined p x [] = refl
pieces_joined p x (b ∷ bs) =
    rw (printed_append p x b (in_one bs), fed_append p x b (in_one bs), pieces_joined p (fed p x b) bs)
    (sym (append_assoc (fed_printed p x b) _ _))

pub cut_anyhow : (p : Plan) (x : At) (cs bs : List (List ℕ)) → in_one cs ≡ in_one bs → pieces_printed p x cs ≡ pieces_printed p x bs
cut_anyhow p x cs bs e = pieces_joined p x cs ∙ ap (text_printed p x) e ∙ sym (pieces_joined p x bs)

-- where a run stands inside a line of which l came so far
abbrev in_line : State → ℕ → List ℕ → At
in_line s n l = record { state = s; number = n; kept = take most_kept l }

-- what is printed of the lines that are still answered
abbrev from_line : Plan → State → ℕ → List (List ℕ) → List ℕ
from_line p s n ls = printed_from n (outcomes p s (take (suc most_lines - n) ls))

-- the next line is answered, or no more are
module _ (p : Plan) (s : State) (n : ℕ) where
  from_next : (l : List ℕ) (ls : List (List ℕ)) → leb n most_lines ≡ true
      → from_line p s n (l ∷ ls) ≡ printed n (line_gives p s l) ++ from_line p (line_gives p s l).state (n + 1) ls
  unfolding printed_from outcomes
  from_next l ls e = ap (λ (k : ℕ). printed_from n (outcomes p s (take k (l ∷ ls)))) {x = suc most_lines - n} {y = suc (suc most_lines - (n + 1))} (omega (arith, leb-true n most_lines e))

  from_over : (ls : List (List ℕ)) → leb n most_lines ≡ false → from_line p s n ls ≡ []
  unfolding printed_from outcomes
  from_over ls e = ap (λ (k : ℕ). printed_from n (outcomes p s (take k ls))) {x = suc most_lines - n} {y = zero} (omega (arith, leb-false n most_lines e))

  from_none : from_line p s n [] ≡ []
  unfolding printed_from outcomes
  from_none = ap (λ (ls : List (List ℕ)). printed_from n (outcomes p s ls)) (take-nil (suc most_lines - n))

-- what is kept of a line is answered as the line is
module _ (p : Plan) (s : State) {l : List ℕ} (w : Whole line_feed l) where
  pub gives_kept : line_gives p s (take most_kept (l ++ (line_feed ∷ []))) ≡ line_gives p s (l ++ (line_feed ∷ []))
  unfolding line_gives
  gives_kept = ap (event_gives p s) (event_kept w)

  gives_kept_whole : line_gives p s (take most_kept l) ≡ line_gives p s l
  unfolding line_gives
  gives_kept_whole = ap (event_gives p s) (event_kept_whole w)

-- the end of the text, inside a line or not
module _ (p : Plan) (s : State) (n : ℕ) where
  last_line : {l : List ℕ} → Whole line_feed l → line_printed p (in_line s n l) ≡ from_line p s n (l ∷ [])
  unfolding is_going
  last_line {l} w = go (leb n most_lines) refl
    where
      go : (b : Bool) → leb n most_lines ≡ b → line_printed p (in_line s n l) ≡ from_line p s n (l ∷ [])
      go true e =
          rw (printed_going p (in_line s n l) e, gives_kept_whole p s w, from_next p s n l [] e, from_none p (line_gives p s l).state (n + 1)) (sym (append-nil _))
      go false e = printed_over p (in_line s n l) e ∙ sym (from_over p s n (l ∷ []) e)

  ended : {l : List ℕ} → Whole line_feed l → end_printed p (in_line s n l) ≡ from_line p s n (lines l)
  unfolding end_printed lines
  ended Whole.end = sym (from_none p s n)
  ended (Whole.on {x = x} {xs = l} e w) = rw (lines_whole {t = x ∷ l} (omega arith) (Whole.on e w)) (last_line (Whole.on e w))

-- a byte that ends no line, and a line feed
module _ (p : Plan) (s : State) (n : ℕ) {l : List ℕ} (w : Whole line_feed l) (t : List ℕ) where
  keeps : (b : ℕ) → keeping (in_line s n l) (b ∷ []) ≡ in_line s n (l ++ (b ∷ []))
  unfolding keeping
  keeps b = ap (λ (k : List ℕ). record { state = s; number = n; kept = k }) (take_again most_kept l (b ∷ []))

  text_on : (b : ℕ) → eqb b line_feed ≡ false → text_printed p (in_line s n l) (b ∷ t) ≡ text_printed p (in_line s n (l ++ (b ∷ []))) t
  unfolding text_printed fed fed_printed
  text_on b e = rw (byte_quiet p (in_line s n l) b e, byte_on p (in_line s n l) b e, keeps b)

  text_feed : text_printed p (in_line s n l) (line_feed ∷ t)
      ≡ line_printed p (in_line s n (l ++ (line_feed ∷ []))) ++ text_printed p (line_done p (in_line s n (l ++ (line_feed ∷ [])))) t
  unfolding text_printed fed fed_printed fed_byte byte_printed
  text_feed = rw (keeps line_feed) (append_assoc (line_printed p (in_line s n (l ++ (line_feed ∷ [])))) _ _)

  -- the line is answered and the rest follows, or nothing more is
  Follows : Type 0
  Follows = (s₁ : State) (n₁ : ℕ) → text_printed p (in_line s₁ n₁ []) t ≡ from_line p s₁ n₁ (lines t)

  text_line : Follows → text_printed p (in_line s n l) (line_feed ∷ t) ≡ from_line p s n (lines (l ++ (line_feed ∷ t)))
  unfolding is_going Follows
  text_line ih = rw (text_feed, lines_line t w) (go (leb n most_lines) refl)
    where
      line : List ℕ
      line = l ++ (line_feed ∷ [])

      go : (b : Bool) → leb n most_lines ≡ b
          → line_printed p (in_line s n line) ++ text_printed p (line_done p (in_line s n line)) t ≡ from_line p s n (line ∷ lines t)
      go true e =
          rw (printed_going p (in_line s n line) e, done_going p (in_line s n line) e, gives_kept p s w, from_next p s n line (lines t) e)
          (ap (λ (u : List ℕ). printed n (line_gives p s line) ++ u) (ih (line_gives p s line).state (n + 1)))
      go false e =
          rw (printed_over p (in_line s n line) e, done_over p (in_line s n line) e, from_over p s n (line ∷ lines t) e)
          (ih s n ∙ from_over p s n (lines t) e)

-- the whole text from inside a line: its own lines, as far as the number of lines goes
text_from : (p : Plan) (s : State) (n : ℕ) {l : List ℕ} → Whole line_feed l → (t : List ℕ)
    → text_printed p (in_line s n l) t ≡ from_line p s n (lines (l ++ t))
unfolding text_printed fed fed_printed Follows
text_from p s n {l} w [] = rw (append-nil l) (ended p s n w)
text_from p s n {l} w (b ∷ t) = go (eqb b line_feed) refl (λ s₁ n₁ l₁ w₁. text_from p s₁ n₁ {l = l₁} w₁ t)
  where
    go : (c : Bool) → eqb b line_feed ≡ c
        → ((s₁ : State) (n₁ : ℕ) (l₁ : List ℕ) → Whole line_feed l₁ → text_printed p (in_line s₁ n₁ l₁) t ≡ from_line p s₁ n₁ (lines (l₁ ++ t)))
        → text_printed p (in_line s n l) (b ∷ t) ≡ from_line p s n (lines (l ++ (b ∷ t)))
    go true e ih = rw (eqb-true b line_feed e) (text_line p s n w t (λ s₁ n₁. ih s₁ n₁ [] Whole.end))
    go false e ih = text_on p s n w t b e ∙ ih s n (l ++ (b ∷ [])) (whole_snoc b w e) ∙ rw (append_snoc l b t)

-- a file that comes in pieces prints what its whole text prints, however it is cut
pub pieces_run : (p : Plan) (bs : List (List ℕ)) → pieces_printed p (start p) bs ≡ printed_run p (in_one bs)
unfolding start printed_run
pieces_run p bs = pieces_joined p (start p) bs ∙ text_from p _ 1 Whole.end (in_one bs)
