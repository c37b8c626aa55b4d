-- "Events": what an event gives, by the tests that the code makes on the way.
use mathlib.Core.Path.{◌≡◌, sym, ap, ◌∙◌}
use Prim.Native.Nat.{ℕ}
use borrow.Author.Tests.{eq-eqb, ne_eqb}
use Rattle.plan.specs.declared.Plan.{Plan}
use Rattle.plan.specs.declared.CeiledPlan.{CeiledPlan}
use Rattle.state.specs.declared.State.{State}
use Rattle.state.specs.Sized.{Sized}
use Rattle.choice.specs.declared.Choice.{Choice}
use Rattle.choice.specs.Choice.{runs, running}
use Rattle.choice.specs.Lent.{Lent}
use Rattle.step.specs.declared.Outcome.{Outcome}
use Rattle.step.specs.declared.Answer.{Answer}
use Rattle.step.specs.Refusals.{refusal}
use Rattle.step.specs.Events.{answered}
use Rattle.step.specs.Step.{done, stepped, unread, answer_of}
use Rattle.step.specs.Lent.{Answers}
use Rattle.step.proofs.Stepped.{stepped_legal}
use Rattle.step.proofs.Settling.{Chooses}

-- the choice, and who runs by it
pub answered_is : (p : Plan) (s : State) (d : Choice) (row : ℕ) → Chooses p s d → row ≡ runs s d.task
    → (n : ℕ) → record { answer = n; subsystem = d.subsystem; task = row; ended = 0; state = s } ≡ answered p s n
unfolding answered running
answered_is p s d row C e n = rw (e, C.0, C.1)

pub running_is : (p : Plan) (s : State) (d : Choice) (row : ℕ) → Chooses p s d → row ≡ runs s d.task → row ≡ running p s
unfolding running
running_is p s d row C e = e ∙ ap (runs s) C.1

-- an outcome by its answer and its state
pub answers_by : (o : Outcome) (a : Answer) (u : State) → record { answer = a.answer; subsystem = a.subsystem; task = a.task; ended = a.ended; state = u } ≡ o → Answers o a u
unfolding answer_of
answers_by o a u e = (ap answer_of e, ap (λ (x : Outcome). x.state) e)

-- and back
pub outcome_by : (o : Outcome) (a : Answer) (u : State) → Answers o a u → record { answer = a.answer; subsystem = a.subsystem; task = a.task; ended = a.ended; state = u } ≡ o
unfolding answer_of
outcome_by o a u A = λ i. record { answer = (A.0 i).answer; subsystem = (A.0 i).subsystem; task = (A.0 i).task; ended = (A.0 i).ended; state = A.1 i }

-- of an outcome that is the same
pub answers_as : (o q : Outcome) (a : Answer) (u : State) → o ≡ q → Answers o a u → Answers q a u
answers_as o q a u e A = (A.0 ∙ ap answer_of e, A.1 ∙ ap (λ (x : Outcome). x.state) e)

-- 31 and 32 keep the state
pub unread_by : (o : Outcome) (a : Answer) (s : State) (n : ℕ) → a ≡ answer_of (unread s n) → unread s n ≡ o → Answers o a s
unfolding unread
unread_by o a s n f e = (f ∙ ap answer_of e, ap (λ (x : Outcome). x.state) e)

-- an answer with the choice in the state left behind
pub answered_by : (p : Plan) (o : Outcome) (a : Answer) (u : State) (n : ℕ) → a ≡ answer_of (answered p u n) → answered p u n ≡ o → Answers o a u
unfolding answered
answered_by p o a u n f e = (f ∙ ap answer_of e, ap (λ (x : Outcome). x.state) e)

-- refused or not

module _ (p : Plan) (s : State) (kind k r n : ℕ) (e : n ≡ refusal p s kind k r) where
  pub stepped_refused : (n ≡ 0 → ⊥) → answered p s n ≡ stepped p s kind k r
  unfolding stepped
  stepped_refused h = rw (stepped, ← e, ne_eqb n 0 h) (ap (answered p s) e)

  pub stepped_done : n ≡ 0 → done p s kind k r ≡ stepped p s kind k r
  unfolding stepped
  stepped_done h = rw (stepped, ← e, eq-eqb n 0 h)

-- what is lent stays lent: the state that an event leaves is legal too
pub after_lent : (c : CeiledPlan) (s : State) → Lent c s → Sized s → (kind k r n : ℕ) (u : State) → answered c.plan u n ≡ stepped c.plan s kind k r → Lent c u
unfolding answered
after_lent c s L Z kind k r n u e =
    let f : (stepped c.plan s kind k r).state ≡ u = sym (ap (λ (o : Outcome). o.state) e) in
    record {
      accepted = L.accepted;
      ceilings = L.ceilings;
      legal = rw f at (stepped_legal c.plan s L.accepted Z L.legal kind k r);
    }
