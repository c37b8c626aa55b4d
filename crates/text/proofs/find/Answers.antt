use Rattle.std.proofs.Common.{arith}
use Rattle.text.proofs.Until.{until_past, until_le}
use Rattle.text.proofs.find.Goals as goal

pub returns-in_default : goal.returns-in_default
returns-in_default c = let h = until_past c.args.b c.args.s.now c.args.at (grind arith) in omega arith

pub overflow_add-result : goal.overflow_add-result
overflow_add-result c = let h = until_le c.args.b c.in-Some.rest.now in omega (arith, c.in-Some.ensures)
