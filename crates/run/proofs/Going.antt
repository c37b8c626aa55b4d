-- The definitions of a run in pieces, case by case: a byte inside a line, a line feed, a line that is answered, and one past the last that is.
use Rattle.std.proofs.Common.{◌≡◌, refl, sym, true, false, List, [], ◌∷◌, ◌++◌, append_assoc, ℕ, ◌+◌, eqb}
use Rattle.text.specs.Lines.{line_feed}
use Rattle.plan.specs.declared.Plan.{Plan}
use Rattle.line.specs.Printed.{printed}
use Rattle.line.specs.Run.{line_gives}
use Rattle.run.specs.Stream.{At, keeping, is_going, line_done, line_printed, fed_byte, byte_printed, fed, fed_printed}

module _ (p : Plan) (x : At) where
  -- a line that is answered
  pub done_going : is_going x ≡ true → line_done p x ≡ record { state = (line_gives p x.state x.kept).state; number = x.number + 1; kept = [] }
  unfolding line_done
  done_going e = rw (line_done, e)

  pub printed_going : is_going x ≡ true → line_printed p x ≡ printed x.number (line_gives p x.state x.kept)
  unfolding line_printed
  printed_going e = rw (line_printed, e)

  -- past the last line that is
  pub done_over : is_going x ≡ false → line_done p x ≡ record { state = x.state; number = x.number; kept = [] }
  unfolding line_done
  done_over e = rw (line_done, e)

  pub printed_over : is_going x ≡ false → line_printed p x ≡ []
  unfolding line_printed
  printed_over e = rw (line_printed, e)

  -- a byte inside a line
  pub byte_on : (b : ℕ) → eqb b line_feed ≡ false → fed_byte p x b ≡ keeping x (b ∷ [])
  unfolding fed_byte
  byte_on b e = rw (fed_byte, e)

  pub byte_quiet : (b : ℕ) → eqb b line_feed ≡ false → byte_printed p x b ≡ []
  unfolding byte_printed
  byte_quiet b e = rw (byte_printed, e)

-- a piece cut in two
pub fed_append : (p : Plan) (x : At) (a b : List ℕ) → fed p x (a ++ b) ≡ fed p (fed p x a) b
unfolding fed
fed_append p x [] b = refl
fed_append p x (c ∷ a) b = fed_append p (fed_byte p x c) a b

pub printed_append : (p : Plan) (x : At) (a b : List ℕ) → fed_printed p x (a ++ b) ≡ fed_printed p x a ++ fed_printed p (fed p x a) b
unfolding fed fed_printed
printed_append p x [] b = refl
printed_append p x (c ∷ a) b = rw (printed_append p (fed_byte p x c) a b) (sym (append_assoc (byte_printed p x c) _ _))
