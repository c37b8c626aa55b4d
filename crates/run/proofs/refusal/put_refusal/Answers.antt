-- `run::refusal::put_refusal` meets its contract: a single line, with room or without.
use Rattle.std.proofs.Common.{arith}
use Rattle.reader.specs.Numbers.{number, beside}
use Rattle.run.proofs.AsFarLaws.{leads_start, leads_one}
use Rattle.run.proofs.RowsLaws.{refused_so}
use Rattle.run.proofs.refusal.put_refusal.Goals as goal

pub returns : goal.returns
returns c =
    let a = c.args in
    let w = refused_so a.out.now a.fill _ _ (number a.e) (beside a.e) c.print_refusal.ensures (omega (arith, c.number.ensures)) (omega (arith, c.beside.ensures)) in
    rw c.ok_or.ensures.value (leads_one _ (leads_start _ a.out.now a.fill) w.0 w.1)
