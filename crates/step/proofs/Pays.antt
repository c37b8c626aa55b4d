-- "Events", step (c): the chosen subsystem pays one tick, whatever runs. Other proofs about (c) go by these laws, not by how a tick is written.
use mathlib.Core.Path.{◌≡◌, refl, ap, ◌∙◌}
use mathlib.Core.Logic.{◌≢◌}
use Prim.Native.Nat.{ℕ, ◌-◌, ◌<◌}
use native.Mathlib.Omega.{arith}
use Rattle.plan.specs.declared.Plan.{Plan}
use Rattle.plan.specs.Limits.{most_subsystems}
use Rattle.state.specs.declared.BudgetLeft.{BudgetLeft}
use Rattle.state.specs.declared.State.{State}
use Rattle.state.specs.State.{task_at, left_of, refill_of, used_of}
use Rattle.state.specs.Update.{with_left}
use Rattle.state.specs.Sized.{Sized}
use Rattle.state.proofs.Update.{left_of_with_left, left_of_with_left_other, task_at_with_left, refill_of_with_left, used_of_with_left, sized_with_left}
use Rattle.legal.proofs.Counts.{SameCounts}
use Rattle.choice.specs.Choice.{taken, runs}
use Rattle.step.specs.Tick.{Shut, given_waited, charged, ran, refilled, tick_in}

-- u is s with one tick less of budget in c, and reads like it elsewhere
pub record Paid (s : State) (c : ℕ) (u : State) : Type 0 where
  pub sized : Sized u
  pub left : (left_of u c).0 ≡ (left_of s c).0 - 1
  pub tasks : (k : ℕ) → task_at u k ≡ task_at s k
  pub refill : (d : ℕ) → refill_of u d ≡ refill_of s d
  pub used : (d : ℕ) → used_of u d ≡ used_of s d
  pub elsewhere : (d : ℕ) → d ≢ c → SameCounts s u d

-- what (b) leaves with c chosen
abbrev pub given_in : Plan → Shut → ℕ → State
given_in p x c = given_waited p x.state (taken p x.state c)

-- the task that runs then
abbrev pub runs_in : Plan → Shut → ℕ → ℕ
runs_in p x c = runs (given_in p x c) (taken p x.state c)

-- between (b) and the task that runs, c pays
pub record Pays (p : Plan) (x : Shut) (c : ℕ) : Type 0 where
  pub paid : State
  pub pays : Paid (given_in p x c) c paid
  pub after : (tick_in p x c).state ≡ refilled p (ran p paid (runs_in p x c))

module _ (p : Plan) (x : Shut) (c : ℕ) (Z : Sized (given_in p x c)) (h : c < most_subsystems) where
  -- what c has left may be written in any way: that it is one less is enough
  pays_by : (q : BudgetLeft) → (tick_in p x c).state ≡ refilled p (ran p (with_left (given_in p x c) c q) (runs_in p x c)) → q.0 ≡ (left_of (given_in p x c) c).0 - 1 → Pays p x c
  pays_by q after e =
      record {
        paid = with_left g c q;
        pays =
            record {
              sized = sized_with_left g c q Z;
              left = ap (λ v. v.0) (left_of_with_left g c q Z h) ∙ e;
              tasks = task_at_with_left g c q;
              refill = refill_of_with_left g c q;
              used = used_of_with_left g c q;
              elsewhere = λ d n.
                  record { left = ap (λ v. v.0) (left_of_with_left_other g c q d n); refill = refill_of_with_left g c q d; used = used_of_with_left g c q d };
            };
        after = after;
      }
    where
      g : State
      g = given_in p x c

  -- a tick charges the subsystem chosen
  pub tick_pays : Pays p x c
  unfolding tick_in charged
  tick_pays = pays_by _ refl (omega arith)
