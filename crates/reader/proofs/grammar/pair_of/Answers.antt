-- A first number, and a second that is the last.
use Rattle.std.proofs.Common.{◌≡◌, ℕ, List, ◌+◌, ◌-◌, ◌<◌, length, take, drop, Some, None, Option, refl, sym, ap, ◌∙◌, arith}
use Rattle.text.proofs.Until.{until_le}
use Rattle.text.specs.Lines.{fields, until, tab}
use Rattle.text.specs.Numbers.{number, of_one, of_two}
use Rattle.reader.specs.declared.Line.{Line}
use Rattle.reader.specs.Line.{of_numbers}
use Rattle.reader.specs.Pair.{of_pair}
use Rattle.reader.proofs.Fields.{too_few, two_one, none_found, first_not, first_next, last_written, last_not}
use Rattle.reader.proofs.grammar.pair_of.Goals as goal

-- behind the first number one is wanted
front : (s : List ℕ) {m n : ℕ} {rest : List ℕ} → m ≡ 0 + until tab s → m < length s → rest ≡ take (length s - (m + 1)) (drop (m + 1) s) → number (take m s) ≡ Some n
    → (F : ℕ → ℕ → Option Line) → of_numbers (of_two None F) (fields s) ≡ of_numbers (of_one None (F n)) (fields rest)
front s {m} {n} e h r w F = first_next s m e h _ _ r w (two_one F n)

pub overflow_add-m : goal.overflow_add-m
overflow_add-m c = omega (arith, until_le tab c.args.s.now)

pub returns-in_err-rest : goal.returns-in_err-rest
unfolding of_two
returns-in_err-rest c = λ F. ap (of_pair F) c.from_residual.ensures ∙ sym (too_few (of_two None F) (λ n. refl) (none_found _ _ c.find-m.ensures (grind arith)))

pub returns-in_err-first : goal.returns-in_err-first
returns-in_err-first c = λ F.
    ap (of_pair F) c.from_residual-in_err-first.ensures ∙ sym (first_not _ _ c.find-m.ensures (grind arith) _ (sym c.number_of.ensures ∙ c.in_err-first.was))

pub returns-in_err-second : goal.returns-in_err-second
returns-in_err-second c = λ F.
    ap (of_pair F) c.from_residual-in_err-second.ensures
    ∙ sym
    (front _ c.find-m.ensures (grind arith) c.in_ok-rest.ensures.lookup.0.2 (sym c.number_of.ensures ∙ c.in_ok-first.was) F
    ∙ last_not _ _ (sym c.number_of-2.ensures ∙ c.in_err-second.was))

pub returns : goal.returns
returns c = λ F.
    sym
    (front _ c.find-m.ensures (grind arith) c.in_ok-rest.ensures.lookup.0.2 (sym c.number_of.ensures ∙ c.in_ok-first.was) F
    ∙ last_written _ _ (sym c.number_of-2.ensures ∙ c.in_ok-second.was))
