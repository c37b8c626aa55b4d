-- A first number, and the pair behind it.
use Rattle.std.proofs.Common.{◌≡◌, ℕ, List, ◌+◌, ◌-◌, ◌<◌, length, take, drop, Some, None, refl, sym, ap, ◌∙◌, arith}
use Rattle.text.proofs.Until.{until_le}
use Rattle.text.specs.Lines.{fields, until, tab}
use Rattle.text.specs.Numbers.{number, of_two, of_three}
use Rattle.reader.specs.Line.{as_uses, of_numbers}
use Rattle.reader.specs.Pair.{of_pair}
use Rattle.reader.proofs.Fields.{too_few, three_two, none_found, first_not, first_next}
use Rattle.reader.proofs.grammar.uses_of.Goals as goal

-- behind the task two numbers are wanted
front : (s : List ℕ) {m n : ℕ} {rest : List ℕ} → m ≡ 0 + until tab s → m < length s → rest ≡ take (length s - (m + 1)) (drop (m + 1) s) → number (take m s) ≡ Some n
    → of_numbers (of_three None as_uses) (fields s) ≡ of_numbers (of_two None (as_uses n)) (fields rest)
front s {m} {n} e h r w = first_next s m e h _ _ r w (three_two as_uses n)

pub overflow_add-m : goal.overflow_add-m
overflow_add-m c = omega (arith, until_le tab c.args.s.now)

pub returns-in_err-rest : goal.returns-in_err-rest
unfolding of_three
returns-in_err-rest c = rw c.from_residual.ensures (sym (too_few (of_three None as_uses) (λ n. refl) (none_found _ _ c.find-m.ensures (grind arith))))

pub returns-in_err-task : goal.returns-in_err-task
returns-in_err-task c =
    rw c.from_residual-in_err-task.ensures (sym (first_not _ _ c.find-m.ensures (grind arith) _ (sym c.number_of.ensures ∙ c.in_err-task.was)))

pub returns-in_err-resource : goal.returns-in_err-resource
returns-in_err-resource c =
    rw c.from_residual-in_err-resource.ensures
    (ap (of_pair (as_uses c.in_ok-task.task)) (sym c.in_err-resource.was) ∙ c.pair_of.ensures (as_uses c.in_ok-task.task)
    ∙ sym (front _ c.find-m.ensures (grind arith) c.in_ok-rest.ensures.lookup.0.2 (sym c.number_of.ensures ∙ c.in_ok-task.was)))

pub returns : goal.returns
returns c =
    ap (of_pair (as_uses c.in_ok-task.task)) (sym c.in_ok-resource.was) ∙ c.pair_of.ensures (as_uses c.in_ok-task.task)
    ∙ sym (front _ c.find-m.ensures (grind arith) c.in_ok-rest.ensures.lookup.0.2 (sym c.number_of.ensures ∙ c.in_ok-task.was))
