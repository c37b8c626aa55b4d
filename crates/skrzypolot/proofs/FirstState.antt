-- The first state of a run on two files is legal: the plan that was read is accepted, and the run begins in its fresh state.
use Rattle.std.proofs.Common.{◌≡◌, refl, ap, sym, List, ℕ, Result, Ok, Err}
use Rattle.std.specs.Prelude.{IfOk}
use Rattle.plan.specs.declared.Plan.{Plan}
use Rattle.plan.specs.declared.CeiledPlan.{CeiledPlan}
use Rattle.plan.specs.Ceiled.{ceiled}
use Rattle.plan.specs.Facts.{Accepted}
use Rattle.plan.proofs.Facts.{accepted_facts}
use Rattle.reader.specs.declared.refusals.Refusal.{Refusal}
use Rattle.reader.specs.Reading.{reading}
use Rattle.exactly.proofs.Sound.{read_accepted}
use Rattle.state.proofs.Fresh.{fresh_sized}
use Rattle.run.specs.declared.stream.Stream.{Stream}
use Rattle.run.specs.Standing.{Stands}
use Rattle.run.specs.Stream.{At, start}
use Rattle.run.specs.Fed.{at_of}
use Rattle.run.proofs.Starting.{start_lent}

-- a plan that was read
pub read_plan : (text : List ℕ) (r : Result Plan Refusal) → r ≡ reading text → IfOk r Accepted
read_plan text (Ok p) e = accepted_facts p (read_accepted text (sym e))
read_plan text (Err v) e = tt

-- with its ceilings, and the state that a run begins in
pub first_state : (p : Plan) → Accepted p → {c : CeiledPlan} → c ≡ ceiled p → (s : Stream) → at_of s ≡ start c.plan → Stands c s.state
unfolding at_of start
first_state p A g s e =
    rw (ap (λ (x : At). x.state) e, g) (record { lent = start_lent p A; sized = fresh_sized p })
