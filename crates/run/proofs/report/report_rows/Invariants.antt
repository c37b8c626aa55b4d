-- `run::report::report_rows` meets its contract. The loop's invariant: the rows that are left lead from here to what all rows give.
use Rattle.std.proofs.Common.{◌-◌}
use Rattle.run.specs.Reporting.{report_from}
use Rattle.run.proofs.AsFarLaws.{Leads}
use Rattle.run.proofs.report.report_rows.Given as goal

abbrev pub invariant-loop-s : goal.invariant-loop-s
invariant-loop-s l = Leads (report_from l.p (l.p.subsystems - l.s) l.s) l.out l.at (report_from l.p l.p.subsystems 0) l.initial.out l.fill
