-- `run::whole::run` meets its contract: the reader's plan is accepted, so that its fresh state is legal; or it is refused.
use Rattle.std.proofs.Common.{sym}
use Rattle.run.proofs.Starting.{refused_lines, accepted_lines, accepted_lent}
use Rattle.run.proofs.whole.run.Goals as goal

pub returns-in-Ok : goal.returns-in-Ok
returns-in-Ok c =
    let a = c.args in
    let q = sym c.in-Ok.ensures in
    rw (accepted_lines a.plan.now a.events.now q c.with_ceilings-c.ensures c.fresh.ensures) at (c.run_lines.ensures (accepted_lent a.plan.now a.events.now q c.with_ceilings-c.ensures c.fresh.ensures))

pub returns-in-Err : goal.returns-in-Err
returns-in-Err c = rw (refused_lines c.args.plan.now c.args.events.now (sym c.in-Err.ensures)) at c.put_refusal.ensures
