use Rattle.std.proofs.Common.{sym, ◌∙◌}
use Rattle.step.proofs.Settling.{begun, again, turns_over, none_spent, settled}
use Rattle.step.proofs.tick.settle.Goals as goal

pub loop-turn-init : goal.loop-turn-init
loop-turn-init c = λ l z. begun _ _ _ (record { sized = z; legal = l.legal }) (c.choose-x.ensures l)

pub loop-turn-preserved : goal.loop-turn-preserved
loop-turn-preserved c = λ l z.
    again _ _ l _ _ _ _ (c.loop-turn.invariant l z) c.loop-turn-test.true (sym c.is_spent.ensures ∙ c.if-not-is_spent.false)
    _ _ _ c.shut_one.ensures c.with_ended-ended.ensures c.choose-x-in-loop-turn.ensures

pub returns-after-loop-turn : goal.returns-after-loop-turn
returns-after-loop-turn c = λ l z.
    let S = c.loop-turn.invariant l z in
    settled _ _ _ _ (turns_over _ l.accepted _ _ _ _ S c.loop-turn-test.false) S.chooses

pub returns-then-not-is_spent : goal.returns-then-not-is_spent
returns-then-not-is_spent c = λ l z.
    let S = c.loop-turn.invariant l z in
    settled _ _ _ _ (none_spent _ l.accepted _ _ _ _ S (sym c.is_spent.ensures ∙ c.if-not-is_spent.true)) S.chooses
