-- `run::lines::line_answer` meets its contract: an event that was read steps by its kind, and a line that is no event is answered 11.
use Rattle.std.proofs.Common.{sym, ◌∙◌}
use Rattle.step.proofs.Answering.{answers_as, answered_by}
use Rattle.run.proofs.LineSteps.{given_event, given_none}
use Rattle.run.proofs.lines.line_answer.Goals as goal

pub returns-in-Some : goal.returns-in-Some
returns-in-Some c = λ l.
    answers_as _ _ _ _ (given_event _ _ _ _ (sym c.event_of.ensures ∙ c.in-Some.is)) (c.stepped_as.ensures l)

pub returns-in-None : goal.returns-in-None
returns-in-None c = λ l.
    answered_by _ _ _ _ _ (c.unknown.ensures l) (given_none _ _ _ (sym c.event_of.ensures ∙ c.in-None.is))
