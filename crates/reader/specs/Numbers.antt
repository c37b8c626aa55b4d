-- "Admission", its table: the number of each refusal, and the number returned beside it.
use Rattle.std.specs.Prelude.{ℕ}
use Rattle.reader.specs.declared.refusals.Refusal.{Refusal}
use Rattle.reader.specs.declared.refusals.Refusal.TheVariants.{TooLong, NotGrammar, KindOrder, TooManyRows, NoSuchRow, OutOfRange, Twice, TwoSubsystems, AboveBudget, NoSubsystem, NegativeMargin}
use Rattle.reader.specs.declared.refusals.Unasked.{Unasked}
use Rattle.reader.specs.declared.refusals.Unasked.TheVariants.{NoRow, Refused}

-- the number of a refusal
abbrev pub number : Refusal → ℕ
number TooLong = 20
number (NotGrammar line) = 21
number (KindOrder line) = 22
number (TooManyRows line) = 23
number (NoSuchRow line) = 24
number (OutOfRange line) = 25
number (Twice line) = 26
number (TwoSubsystems line) = 27
number (AboveBudget line) = 28
number NoSubsystem = 29
number (NegativeMargin row) = 30

-- the number returned beside it: a line, a row, or 0
abbrev pub beside : Refusal → ℕ
beside TooLong = 0
beside (NotGrammar line) = line
beside (KindOrder line) = line
beside (TooManyRows line) = line
beside (NoSuchRow line) = line
beside (OutOfRange line) = line
beside (Twice line) = line
beside (TwoSubsystems line) = line
beside (AboveBudget line) = line
beside NoSubsystem = 0
beside (NegativeMargin row) = row

-- where there is no margin: 24 for a row the plan lacks; else the number of the plan's refusal
abbrev pub unasked_number : Unasked → ℕ
unasked_number NoRow = 24
unasked_number (Refused e) = number e

-- the number beside it: 0 for a row the plan lacks
abbrev pub unasked_beside : Unasked → ℕ
unasked_beside NoRow = 0
unasked_beside (Refused e) = beside e
