-- `run::whole::line_end` meets its contract: the first line ends behind its line feed, or with the text.
use Rattle.std.proofs.Common.{ap, arith, length, drop, length-drop}
use Rattle.text.specs.Lines.{line_feed}
use Rattle.text.proofs.Until.{until_le}
use Rattle.run.proofs.FirstLines.{first_length, first_whole}
use Rattle.run.proofs.whole.line_end.Goals as goal

pub returns-then-end-events : goal.returns-then-end-events
returns-then-end-events c =
    let a = c.args in
    let t = drop a.at a.events.now in
    omega (arith, c.find-end.ensures, length-drop a.at a.events.now, first_length t (omega (arith, c.find-end.ensures, length-drop a.at a.events.now)))

pub returns-else-end-events : goal.returns-else-end-events
returns-else-end-events c =
    let a = c.args in
    let t = drop a.at a.events.now in
    omega (arith, c.find-end.ensures, length-drop a.at a.events.now, until_le line_feed t, ap length (first_whole t (omega (arith, c.find-end.ensures, length-drop a.at a.events.now))))
