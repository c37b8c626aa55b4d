-- A number of a kind steps by the kind; a larger one is no event.
use Rattle.step.proofs.Answering.{answered_by}
use Rattle.step.proofs.Narrowing.{unknown_kind}
use Rattle.step.proofs.event.stepped.Goals as goal

pub returns-in-Some : goal.returns-in-Some
returns-in-Some c = λ l. rw (rw c.in-Some.is at c.of.ensures) at c.stepped_as.ensures l

pub returns-in-None : goal.returns-in-None
returns-in-None c = λ l.
    answered_by _ _ _ _ _ (c.unknown.ensures l) (unknown_kind _ _ _ _ _ (rw c.in-None.is at c.of.ensures))
