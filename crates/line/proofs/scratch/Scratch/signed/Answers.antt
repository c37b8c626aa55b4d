-- `line::scratch::Scratch::signed` meets its contract: the size, and a dash in front of a negative number's.
use Rattle.std.proofs.Common.{◌∙◌, arith}
use Rattle.line.proofs.Signs.{size_short, below_text, plain_text}
use Rattle.line.proofs.scratch.Scratch.signed.Goals as goal

pub decimal-requires : goal.decimal-requires
decimal-requires c = omega (arith, size_short c.ranges.number c.unsigned_abs.ensures.value)

pub byte-requires : goal.byte-requires
byte-requires c =
    omega (arith, size_short c.ranges.number c.unsigned_abs.ensures.value)

pub returns-then-number-lt0-clause-text : goal.returns-then-number-lt0-clause-text
returns-then-number-lt0-clause-text c =
    rw (below_text c.ranges.number c.unsigned_abs.ensures.value c.if-number-lt0.true) (c.byte.ensures ∙ rw c.decimal.ensures.text)

pub returns-else-number-lt0-clause-text : goal.returns-else-number-lt0-clause-text
returns-else-number-lt0-clause-text c = rw (plain_text c.ranges.number c.unsigned_abs.ensures.value c.if-number-lt0.false) c.decimal.ensures.text

pub returns-then-number-lt0-clause-room : goal.returns-then-number-lt0-clause-room
returns-then-number-lt0-clause-room c = rw c.byte.ensures (omega (arith, size_short c.ranges.number c.unsigned_abs.ensures.value))

pub returns-else-number-lt0-clause-room : goal.returns-else-number-lt0-clause-room
returns-else-number-lt0-clause-room c = omega (arith, size_short c.ranges.number c.unsigned_abs.ensures.value)
