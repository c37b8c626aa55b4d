-- What the parts of a choice found: together they are the choice.
use Rattle.std.proofs.Common.{◌≡◌, ap, ◌∙◌, ℕ, ◌<◌, ltb}
use Rattle.below.specs.Below.{first}
use Rattle.plan.specs.declared.CeiledPlan.{CeiledPlan}
use Rattle.plan.specs.Limits.{no_row}
use Rattle.state.specs.declared.State.{State}
use Rattle.choice.specs.Choice.{or_no_row, chosen, taken, chosen_task}
use Rattle.choice.specs.Lent.{Lent}
use Rattle.choice.specs.Columns.{section_ceiling, Found, chosen_by, unbarred, taken_below}
use Rattle.choice.proofs.Chosen.{chosen_is}
use Rattle.choice.proofs.TaskTaken.{taken_is}

module _ (c : CeiledPlan) (s : State) (m h d low k : ℕ) where
  pub record Computed : Type 0 where
    pub found : Found c.plan.subsystems c.plan.tasks (section_ceiling c s) m h
    pub subsystem : d ≡ chosen_by c.plan s m h
    pub ready : (t : ℕ) → t < no_row → ltb t low ≡ unbarred c s d t
    pub task : k ≡ or_no_row c.plan.tasks (first c.plan.tasks (taken_below c.plan s d low))

  pub computed_is : Computed → Lent c s → (d ≡ chosen c.plan s) × (k ≡ chosen_task c.plan s)
  unfolding chosen_task
  computed_is w lent =
      let e = w.subsystem ∙ chosen_is c s lent m h w.found in
      (e, w.task ∙ taken_is c s lent d low w.ready ∙ ap (taken c.plan s) e)
