-- The search over the row finds the first that applies.
use Rattle.std.proofs.Common.{rules, ap, ◌∙◌}
use borrow.Author.Tests.{tests}
use Rattle.std.proofs.lemmas.Iterator.{YieldsList-from_slice}
use Rattle.std.proofs.lemmas.Iterator.Consumers.{YieldsList-from_copied}
use Rattle.std.proofs.lemmas.Iterator.Search.{find_from_yields_List}
use Rattle.step.specs.Refusals.{first_refusal, refuses, refusal}
use Rattle.step.specs.Refused.{refusal_number}
use Rattle.step.specs.Lent.{row_kind_number}
use Rattle.step.proofs.Asking.{refusal_found}
use Rattle.step.proofs.order.Asked.refusal.Goals as goal

pub returns : goal.returns
unfolding refusal
returns c = λ s A.
    let a = c.args.self.now in
    let f = refuses c.args.p.now s (row_kind_number a.kind) a.row a.resource in
    refusal_found f _ _
    (find_from_yields_List (λ x. f (refusal_number x)) _ _ _ c.find.ensures.ran (YieldsList-from_copied (YieldsList-from_slice c.order.result.now (search rules))) (λ x b q k. search (rules, tests)))
    ∙ ap (first_refusal f) c.order.ensures
