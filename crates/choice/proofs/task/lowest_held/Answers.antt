use Rattle.std.proofs.Common.{◌≡◌, sym, ltb, arith}
use mathlib.Core.Bool.{and-true}
use Rattle.below.proofs.Search.{all_none}
use Rattle.below.proofs.Least.{all_after}
use Rattle.state.specs.State.{task_at}
use Rattle.choice.specs.Columns.{local_at, below_held}
use Rattle.choice.proofs.Ready.{below_min}
use Rattle.choice.proofs.task.lowest_held.Goals as goal

pub loop-i-init : goal.loop-i-init
loop-i-init c = λ t. rw all_none (sym (and-true _))

pub loop-i-preserved : goal.loop-i-preserved
loop-i-preserved c =
    let a = c.args in
    let l = c.loop-i in
    λ t. all_after l.i (λ j. ltb t (local_at a.c.now a.s.now a.k j)) (ltb t a.low) _ _ (l.invariant t) (below_min t _ _ _ (omega arith))

pub returns : goal.returns
unfolding below_held
returns c =
    let e : c.loop-i.i ≡ (task_at c.args.s.now c.args.k).count = omega arith in
    λ t. rw e at (c.loop-i.invariant t)
