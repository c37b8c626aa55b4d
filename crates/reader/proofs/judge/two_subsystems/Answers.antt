-- A global resource never, a local one where a task is apart.
use Rattle.std.proofs.Common.{refl, sym, ◌∙◌, rules, tests}
use Rattle.below.proofs.Chains.{any_over}
use Rattle.reader.proofs.Judged.{never_two, two_apart}
use Rattle.reader.proofs.judge.two_subsystems.Goals as goal

pub returns-then-not-is_global : goal.returns-then-not-is_global
returns-then-not-is_global c = λ l.
    any_over _ _ _ _ _ c.any.ensures.ran refl (λ x b q k. search (rules, tests))
    ∙ sym (two_apart _ _ _ l (sym c.is_global.ensures ∙ c.if-not-is_global.true) c.owner-owner.ensures)

pub returns-else-not-is_global : goal.returns-else-not-is_global
returns-else-not-is_global c = λ l. rw c.if-not-is_global.false (sym (never_two _ _ _ l (sym c.is_global.ensures ∙ c.if-not-is_global.false)))
