-- `run::whole::run_lines` meets its contract. The loop's invariant: the lines that are left, put from here, give what all of them give, and the state is
-- legal.
use Rattle.std.proofs.Common.{◌≤◌, length, take, drop}
use Rattle.text.specs.Lines.{lines}
use Rattle.choice.specs.Lent.{Lent}
use Rattle.line.specs.Run.{most_lines, outcomes}
use Rattle.run.specs.Running.{printed_lines}
use Rattle.run.proofs.AsFarLaws.{Leads}
use Rattle.run.specs.Standing.{Stands}
use Rattle.run.proofs.PutLines.{lines_left}
use Rattle.run.proofs.whole.run_lines.Given as goal

abbrev pub invariant-loop-number : goal.invariant-loop-number
invariant-loop-number l =
    (l.at ≤ length l.events)
    × (Lent l.c l.initial.state
    → Stands l.c l.state
    × Leads (lines_left l.c.plan l.state l.number (drop l.at l.events)) l.out l.filled (printed_lines 1 (outcomes l.c.plan l.initial.state (take most_lines (lines l.events)))) l.initial.out l.fill)
