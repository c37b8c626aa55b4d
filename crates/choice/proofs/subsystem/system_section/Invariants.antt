-- What was found is the smallest ceiling of the tasks passed, and the first of them with it.
use Rattle.std.proofs.Common.{◌≤◌}
use Rattle.plan.specs.Limits.{no_row}
use Rattle.choice.specs.Columns.{section_ceiling, Found}
use Rattle.choice.proofs.subsystem.system_section.Given as goal

abbrev pub invariant-loop-k : goal.invariant-loop-k
invariant-loop-k l = (l.ceiling ≤ no_row) × Found l.c.plan.subsystems l.k (section_ceiling l.c l.s) l.ceiling l.holder
