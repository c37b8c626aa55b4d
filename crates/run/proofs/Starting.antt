-- A plan text that was read: a run of an accepted plan starts legal, and a refused one prints its refusal.
use mathlib.Core.Path.{◌≡◌, refl, sym}
use native.Mathlib.Omega.{arith}
use mathlib.Core.List.{List, [], ◌∷◌}
use Prim.Native.Nat.{ℕ}
use lib.ListN.{take}
use Rattle.text.specs.Lines.{lines}
use Rattle.below.proofs.Listed.{get_or_listed}
use Rattle.plan.specs.Limits.{most_resources}
use Rattle.plan.specs.Ceiling.{ceiling}
use Rattle.plan.specs.declared.Plan.{Plan}
use Rattle.plan.specs.declared.CeiledPlan.{CeiledPlan}
use Rattle.plan.specs.Ceiled.{ceiled}
use Rattle.plan.specs.Facts.{Accepted}
use Rattle.plan.proofs.Facts.{accepted_facts}
use Rattle.reader.specs.declared.refusals.Refusal.{Refusal}
use Rattle.reader.specs.Numbers.{number, beside}
use Rattle.reader.specs.Reading.{reading}
use Rattle.exactly.proofs.Sound.{read_accepted}
use Rattle.state.specs.declared.State.{State}
use Rattle.state.specs.Fresh.{fresh}
use Rattle.legal.proofs.Fresh.{fresh_legal}
use Rattle.choice.specs.Lent.{Lent}
use Rattle.line.specs.Printed.{printed_refusal}
use Rattle.line.specs.Run.{most_lines, outcomes}
use Rattle.run.specs.Running.{printed_lines, run_lines}
use Rattle.std.specs.Prelude.{Ok, Err}

-- an accepted plan with its ceilings, and its fresh state
pub start_lent : (p : Plan) → Accepted p → Lent (ceiled p) (fresh p)
start_lent p A =
    record {
      accepted = A;
      ceilings = λ r h. get_or_listed most_resources (ceiling p) r 0 (omega (arith, A.resources_most));
      legal = fresh_legal p A;
    }

-- the printed lines, by what the reader answers
module _ (plan events : List ℕ) where
  -- a refused plan
  pub refused_lines : {e : Refusal} → reading plan ≡ Err e → printed_refusal (number e) (beside e) ∷ [] ≡ run_lines plan events
  unfolding run_lines
  refused_lines q = sym (rw (run_lines, q))

  -- an accepted one, with its ceilings and its fresh state
  module _ {p : Plan} (q : reading plan ≡ Ok p) {c : CeiledPlan} {s : State} (g : c ≡ ceiled p) (f : s ≡ fresh c.plan) where
    pub accepted_lines : printed_lines 1 (outcomes c.plan s (take most_lines (lines events))) ≡ run_lines plan events
    unfolding run_lines
    accepted_lines = rw (f, g) (sym (rw (run_lines, q)))

    pub accepted_lent : Lent c s
    accepted_lent = rw (f, g) (start_lent p (accepted_facts p (read_accepted plan q)))
