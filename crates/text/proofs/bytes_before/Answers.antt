use Rattle.std.proofs.Common.{◌∙◌, nat_eq, rules, tests}
use Rattle.std.proofs.lemmas.Iterator.{YieldsList-from_slice}
use Rattle.std.proofs.lemmas.Iterator.Search.{position_from_yields_List}
use Rattle.text.proofs.Until.{until_first}
use Rattle.text.proofs.bytes_before.Goals as goal

pub returns : goal.returns
returns c =
    let b = c.args.b in
    let s = c.args.s.now in
    c.unwrap_or.ensures
    ∙ until_first b s _ (position_from_yields_List (λ x. nat_eq x b) _ _ _ c.position.ensures.ran (YieldsList-from_slice s cc) (λ x t q k. search (rules, tests)))
