-- 31, 32, or the event: the tests have made sure of what it asks for.
use Rattle.std.proofs.Common.{refl, sym, ◌∙◌}
use Rattle.step.proofs.Answering.{unread_by, answers_as}
use Rattle.step.proofs.Stepping.{step_31, step_32, step_on, step_lent}
use Rattle.step.proofs.step_lent.Goals as goal

pub returns-then-not-is_accepted : goal.returns-then-not-is_accepted
returns-then-not-is_accepted c = unread_by _ _ _ _ (c.unread.ensures _) (step_31 _ _ _ _ _ (sym c.is_accepted.ensures ∙ c.if-not-is_accepted.true))

pub returns-then-not-legal : goal.returns-then-not-legal
returns-then-not-legal c =
    let a = sym c.is_accepted.ensures ∙ c.if-not-is_accepted.false in
    unread_by _ _ _ _ (c.unread-then-not-legal.ensures _)
    (step_32 _ _ _ _ _ a (sym (rw c.with_ceilings-c.ensures at c.legal.ensures a refl) ∙ c.if-not-legal.true))

pub returns : goal.returns
returns c =
    let a = sym c.is_accepted.ensures ∙ c.if-not-is_accepted.false in
    let l = sym (rw c.with_ceilings-c.ensures at c.legal.ensures a refl) ∙ c.if-not-legal.false in
    answers_as _ _ _ _ (step_on _ _ _ _ _ a l) (rw c.with_ceilings-c.ensures at c.stepped.ensures (step_lent _ _ a l))
