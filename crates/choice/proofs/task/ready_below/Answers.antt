use Rattle.std.proofs.Common.{sym, ◌∙◌, ltb, arith}
use mathlib.Core.Bool.{and-true}
use borrow.Author.Tests.{eq-eqb, ne_eqb}
use borrow.Author.Count.{below_none, below_more}
use Rattle.below.proofs.Search.{all_none}
use Rattle.below.proofs.Tests.{and_of, and_left, and_right, clash, fails}
use Rattle.below.proofs.Least.{all_after}
use Rattle.plan.specs.Limits.{no_row}
use Rattle.plan.specs.Plan.{owner}
use Rattle.choice.specs.Choice.{kept_from_ready}
use Rattle.choice.specs.Columns.{below_held_in}
use Rattle.choice.proofs.Ready.{ready_none, ready_ended, bar_other, bar_own}
use Rattle.choice.proofs.task.ready_below.Goals as goal
use Rattle.choice.proofs.task.ready_below.Goals.{then-owner-subsystem+else-keeps, else-owner-subsystem}

pub loop-k-init : goal.loop-k-init
loop-k-init c = (below_none _, λ t. rw all_none (sym (and-true _)))

pub returns-then-keeps : goal.returns-then-keeps
unfolding kept_from_ready
returns-then-keeps c =
    let e = c.owner.ensures in
    ready_none _ _ _ _ _ (omega arith) c.loop-k-test.true
    (and_of _ _ (eq-eqb _ _ (omega arith)) (sym c.keeps.ensures ∙ c.if-keeps.true))

pub loop-k-preserved : goal.loop-k-preserved
loop-k-preserved c =
    let a = c.args in
    let l = c.loop-k in
    let e = c.owner.ensures in (
      below_more _ _ l.invariant.0
          (elim c.if-owner-subsystem.branch [
            | then-owner-subsystem+else-keeps w ↦ fails _ (λ t. clash (and_right _ _ t) (sym w.keeps.ensures ∙ w.if-keeps.false))
            | else-owner-subsystem w ↦ fails _ (λ t. clash (and_left _ _ t) (ne_eqb (owner a.c.now.plan l.k) a.subsystem (omega arith)))
          ]),
      λ t.
          all_after l.k (below_held_in a.c.now a.s.now a.subsystem t) (ltb t no_row) _ _
          (l.invariant.1 t)
          (elim c.if-owner-subsystem.branch [
            | then-owner-subsystem+else-keeps w ↦ bar_own _ _ _ _ _ _ (omega arith) _ w.low-is w.lowest_held-low.ensures t
            | else-owner-subsystem w ↦ bar_other _ _ _ _ _ _ (omega arith) w.low-is t
          ]),
    )

pub returns : goal.returns
unfolding kept_from_ready
returns c =
    let l = c.loop-k in
    ready_ended _ _ _ _ _ l.auto.k-end c.loop-k-test.false l.invariant.0 l.invariant.1
