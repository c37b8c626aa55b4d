-- The three tests together are the definition, for an accepted plan with its own ceilings.
use Rattle.std.proofs.Common.{rules}
use borrow.Author.Tests.{tests}
use Rattle.legal.proofs.CodeLegal.{legal_tested}
use Rattle.legal.proofs.legal.Goals as goal

pub returns-then-tasks_pass : goal.returns-then-tasks_pass
returns-then-tasks_pass c = λ a e. rw (← legal_tested _ _ _ a e) (search (rules, tests))

pub returns-else-tasks_pass : goal.returns-else-tasks_pass
returns-else-tasks_pass c = λ a e. rw (← legal_tested _ _ _ a e) (search (rules, tests))
