-- At each return the tests that led there say which law of number holds.
use Rattle.std.proofs.Common.{sym, ◌∙◌, arith}
use Rattle.text.proofs.Numbers.{number_empty, number_long, number_zero, number_one, number_more}
use Rattle.text.proofs.number_of.Goals as goal
use Rattle.text.proofs.number_of.Goals.{then-n-eq0-via-then-n-eq0, then-n-eq0-via-else-n-eq0+then-n-gt5, else-n-ne1-via-then-n-ne1+else-s-eq48, else-n-ne1-via-else-n-ne1}

pub returns-then-n-eq0 : goal.returns-then-n-eq0
returns-then-n-eq0 c =
    elim c.then-n-eq0.branch [
      | then-n-eq0-via-then-n-eq0 w ↦ sym (number_empty _ (omega arith))
      | then-n-eq0-via-else-n-eq0+then-n-gt5 w ↦ sym (number_long _ (omega arith))
    ]

pub returns-then-s-eq48 : goal.returns-then-s-eq48
returns-then-s-eq48 c = sym (number_zero _ (omega arith) (omega arith))

pub returns : goal.returns
returns c =
    c.digits_of.ensures
    ∙ elim c.else-n-ne1.branch [
      | else-n-ne1-via-then-n-ne1+else-s-eq48 w ↦ sym (number_more _ (omega arith) (omega arith) (omega arith))
      | else-n-ne1-via-else-n-ne1 w ↦ sym (number_one _ (omega arith))
    ]
