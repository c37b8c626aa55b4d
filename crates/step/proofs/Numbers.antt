-- The numbers of an outcome: an answer is at most 11, and where the plan is accepted a row is one of the plan or 255, so a byte.
use mathlib.Core.Path.{◌≡◌, refl}
use mathlib.Core.Bool.{Bool, true, false, ◌&&◌}
use mathlib.Core.List.{List, [], ◌∷◌}
use Prim.Native.Nat.{ℕ, zero, suc, ◌≤◌, ◌<◌}
use native.Mathlib.Omega.{arith}
use lib.Dec.{leb, ltb, eqb}
use lib.ListN.{get_or}
use borrow.Author.Tests.{leb-true, ltb-true}
use Rattle.below.proofs.Tests.{and_left, and_right}
use Rattle.below.specs.Below.{first}
use Rattle.plan.specs.declared.Plan.{Plan}
use Rattle.plan.specs.Plan.{owner, is_global}
use Rattle.plan.specs.Limits.{no_row}
use Rattle.plan.specs.Facts.{Accepted}
use Rattle.state.specs.declared.State.{State}
use Rattle.state.specs.State.{task_at, is_waiting}
use Rattle.choice.specs.Choice.{or_no_row, holds_at_ceiling, system_ceiling, ceiling_holder, chosen, taken, runs, chosen_task, running}
use Rattle.step.specs.declared.Outcome.{Outcome}
use Rattle.step.specs.Refusals.{release, lock, unlock, end, tick, order_table, first_refusal, refuses, refusal}
use Rattle.step.specs.Events.{answered, length_fits_budget, locked}
use Rattle.step.specs.Tick.{Shut, shut_spent, tick_answer, tick_in, tick_idle, tick_after, ticked}
use Rattle.step.specs.Step.{done, stepped}
use Rattle.step.proofs.Cases.{either}

pub record Numbers (p : Plan) (o : Outcome) : Type 0 where
  pub answer : o.answer ≤ 11
  pub subsystem : Accepted p → o.subsystem < 256
  pub task : Accepted p → o.task < 256

-- an event's own answer
Own : ℕ → Type 0
Own n = n ≤ 11

-- the entries of a row of refusals are such numbers
abbrev small : List ℕ → Bool
small [] = true
small (n ∷ ns) = leb n 11 && small ns

row_small : (kind : ℕ) → small (get_or order_table kind []) ≡ true
unfolding order_table
row_small zero = refl
row_small (suc zero) = refl
row_small (suc (suc zero)) = refl
row_small (suc (suc (suc zero))) = refl
row_small (suc (suc (suc (suc zero)))) = refl
row_small (suc (suc (suc (suc (suc n))))) = refl

-- so is the first that applies
first_small : (f : ℕ → Bool) (ns : List ℕ) → small ns ≡ true → Own (first_refusal f ns)
unfolding first_refusal Own
first_small f [] e = omega arith
first_small f (n ∷ ns) e =
    either Own (f n) n (first_refusal f ns) (λ _. leb-true n 11 (and_left (leb n 11) (small ns) e)) (λ _. first_small f ns (and_right (leb n 11) (small ns) e))

-- a tick, 0 or 10
tick_small : (ended : ℕ) → Own (tick_answer ended)
unfolding tick_answer Own
tick_small ended = either Own (eqb ended 0) 0 10 (λ _. omega arith) (λ _. omega arith)

Byte : ℕ → Type 0
Byte n = n < 256

-- a row below n, or m
by_row : (k n m : ℕ) → n ≤ 32 → Byte m → Byte (elim (ltb k n) [ true ↦ k | false ↦ m ])
unfolding Byte
by_row k n m h l = either Byte (ltb k n) k m (λ t. omega (arith, ltb-true k n t)) (λ _. l)

runs_byte : (s : State) (k : ℕ) → Byte k → Byte (runs s k)
unfolding runs Byte
runs_byte s k h = either Byte (is_waiting (task_at s k)) no_row k (λ _. omega arith) (λ _. h)

module _ (p : Plan) (A : Accepted p) (s : State) where
  holder_byte : Byte (ceiling_holder p s)
  unfolding ceiling_holder Byte
  holder_byte =
      let k = first p.tasks (holds_at_ceiling p s (system_ceiling p s)) in
      either Byte (ltb k p.tasks) (owner p k) no_row (λ t. omega (arith, A.owner_there k (ltb-true k p.tasks t), A.subsystems_most)) (λ _. omega arith)

  chosen_byte : Byte (chosen p s)
  unfolding chosen
  chosen_byte = by_row _ p.subsystems (ceiling_holder p s) (omega (arith, A.subsystems_most)) holder_byte

  taken_byte : (c : ℕ) → Byte (taken p s c)
  unfolding taken or_no_row Byte
  taken_byte c = by_row _ p.tasks no_row A.tasks_most (omega arith)

module _ (p : Plan) where
  -- an answer with the choice behind it
  pub of_answered : (s : State) (n : ℕ) → n ≤ 11 → Numbers p (answered p s n)
  unfolding answered running chosen_task Byte
  of_answered s n h =
      record { answer = h; subsystem = λ A. chosen_byte p A s; task = λ A. runs_byte s _ (taken_byte p A s (chosen p s)) }

  of_locked : (s : State) (k r : ℕ) → Numbers p (locked p s k r)
  unfolding locked
  of_locked s k r =
      either (Numbers p) (is_global p r) _ _
      (λ _. either (Numbers p) (length_fits_budget p s k r) _ _ (λ _. of_answered _ 0 (omega arith)) (λ _. of_answered _ 1 (omega arith)))
      (λ _. of_answered _ 0 (omega arith))

  of_tick : (x : Shut) → Numbers p (tick_after p x)
  unfolding tick_after tick_in tick_idle Own Byte
  of_tick x =
      either (Numbers p) (eqb (chosen p x.state) no_row) (tick_idle p x) (tick_in p x (chosen p x.state))
      (λ _. record { answer = tick_small x.ended; subsystem = λ _. omega arith; task = λ _. omega arith })
      (λ _.
      record {
        answer = tick_small x.ended;
        subsystem = λ A. chosen_byte p A x.state;
        task = λ A. runs_byte _ _ (taken_byte p A x.state (chosen p x.state));
      })

  module _ (s : State) (kind k r : ℕ) where
    -- an event that is not refused
    of_done : Numbers p (done p s kind k r)
    unfolding done ticked
    of_done =
        either (Numbers p) (eqb kind release) _ _ (λ _. of_answered _ 0 (omega arith))
        (λ _. either (Numbers p) (eqb kind lock) _ _ (λ _. of_locked s k r)
        (λ _. either (Numbers p) (eqb kind unlock) _ _ (λ _. of_answered _ 0 (omega arith))
        (λ _. either (Numbers p) (eqb kind end) _ _ (λ _. of_answered _ 0 (omega arith))
        (λ _. either (Numbers p) (eqb kind tick) _ _ (λ _. of_tick (shut_spent p s)) (λ _. of_answered s 11 (omega arith))))))

    -- any event
    pub of_stepped : Numbers p (stepped p s kind k r)
    unfolding stepped refusal Own
    of_stepped =
        either (Numbers p) (eqb (refusal p s kind k r) 0) (done p s kind k r) (answered p s (refusal p s kind k r)) (λ _. of_done)
        (λ _. of_answered s _ (first_small (refuses p s kind k r) (get_or order_table kind []) (row_small kind)))
