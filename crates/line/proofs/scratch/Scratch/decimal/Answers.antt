use Rattle.std.proofs.Common.{length, length-append, ap, ◌∙◌, arith}
use Rattle.line.proofs.Digits.{digit_room, digit_next, digit_last}
use Rattle.line.proofs.scratch.Scratch.decimal.Goals as goal

pub byte-requires : goal.byte-requires
byte-requires c = digit_room c.loop-n.invariant c.requires

pub loop-n-preserved : goal.loop-n-preserved
loop-n-preserved c = digit_next c.loop-n.invariant (omega arith) (omega arith) (omega arith) c.byte.ensures

pub byte-requires-2 : goal.byte-requires-2
byte-requires-2 c = digit_room c.loop-n.invariant c.requires

pub returns : goal.returns
returns c =
    let whole = digit_last c.loop-n.invariant (omega arith) (omega arith) c.byte-2.ensures in
    record { text = whole; room = ap length whole ∙ length-append _ _ }
