-- What is left in the lent state, and the answer, make the outcome.
use Rattle.step.proofs.Answering.{outcome_by}
use Rattle.step.proofs.step.Goals as goal

pub returns : goal.returns
returns c = outcome_by _ _ _ c.step_lent-a.ensures
