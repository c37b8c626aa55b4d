-- One letter, L or G.
use Rattle.std.proofs.Common.{sym, arith}
use Rattle.reader.proofs.Letters.{kind_long, kind_local, kind_global, kind_other}
use Rattle.reader.proofs.grammar.resource_of.Goals as goal

pub returns-then-s-ne1 : goal.returns-then-s-ne1
returns-then-s-ne1 c = sym (kind_long _ c.if-s-ne1.true)

pub returns-in-76 : goal.returns-in-76
returns-in-76 c = sym (kind_local _ c.if-s-ne1.false c.in-76.is)

pub returns-in-71 : goal.returns-in-71
returns-in-71 c = sym (kind_global _ c.if-s-ne1.false c.in-71.is)

pub returns-in_default : goal.returns-in_default
returns-in_default c = sym (kind_other _ (omega arith) (omega arith))
