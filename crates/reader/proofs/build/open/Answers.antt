use Rattle.std.proofs.Common.{ℕ, List, ◌≡◌, ◌+◌, ◌*◌, set, refl, ap, ◌∙◌, add-one, arith}
use Rattle.plan.specs.Limits.{undeclared}
use Rattle.plan.specs.Plan.{place}
use Rattle.reader.specs.Reading.{opened}
use Rattle.reader.proofs.build.open.Goals as goal

pub loop-t-init : goal.loop-t-init
unfolding opened
loop-t-init c = refl

pub loop-t-preserved : goal.loop-t-preserved
unfolding opened place
loop-t-preserved c = rw add-one (ap (λ (l : List ℕ). set l (c.loop-t.t * 16 + c.args.r) undeclared) c.loop-t.invariant)

pub returns : goal.returns
returns c =
    let q : c.loop-t.t ≡ c.args.tasks = omega arith in
    c.loop-t.invariant ∙ ap (λ (t : ℕ). opened t c.args.r c.args.lengths.now) q
