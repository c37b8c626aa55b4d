-- Reading on from `at` gives what reading the whole text gives, the plan has no more rows than may be, and there are no more lines than bytes. The measure is what is left.
use Rattle.std.proofs.Common.{◌≡◌, ◌+◌, ◌-◌, ◌≤◌, length, drop}
use Rattle.text.specs.Lines.{lines}
use Rattle.reader.specs.Reading.{empty_plan, read_from}
use Rattle.reader.specs.Room.{Counts}
use Rattle.reader.proofs.lines.read_lines.Given as goal

abbrev pub invariant-loop-at : goal.invariant-loop-at
invariant-loop-at l = (read_from (lines l.text) 1 0 empty_plan ≡ read_from (lines (drop l.at l.text)) l.n l.last l.plan) × Counts l.plan × (l.n ≤ l.at + 1)

abbrev pub decreases-loop-at : goal.decreases-loop-at
decreases-loop-at l = length l.text - l.at
