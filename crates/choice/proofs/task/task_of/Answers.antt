-- The search over the tasks finds the first; where it finds none there is no row.
use Rattle.std.proofs.Common.{rules, ◌∙◌}
use borrow.Author.Tests.{tests}
use Rattle.choice.proofs.TaskRow.{row_over}
use Rattle.choice.specs.Columns.{taken_below}
use Rattle.choice.proofs.task.task_of.Goals as goal

pub returns : goal.returns
returns c = c.unwrap_or.ensures ∙ row_over _ (taken_below c.args.p.now c.args.s.now c.args.subsystem c.args.low) _ _ _ c.find.ensures.ran (λ x b q k. search (rules, tests))
