-- "Events", step (a), as a loop: what holds after some turns, that one more keeps it, and what is known at the end. The set of the tasks ended fits 32 bits, for
-- a task that is ended was not idle, and is idle from then on.
use mathlib.Core.Path.{◌≡◌, refl, sym, ap, ◌∙◌}
use mathlib.Core.Logic.{◌≢◌}
use mathlib.Core.Bool.{Bool, true, false, cond}
use Prim.Native.Nat.{ℕ, zero, suc, ◌+◌, ◌-◌, ◌^◌, ◌≤◌, ◌<◌}
use native.Mathlib.Omega.{arith}
use lib.Dec.{eqb}
use borrow.Author.Tests.{eqb-true, eqb-false}
use Rattle.below.specs.Below.{sum}
use Rattle.below.proofs.Amounts.{sum_rises, sum_falls}
use Rattle.below.proofs.Tests.{fails, conjuncts, or_left}
use Rattle.plan.specs.declared.Plan.{Plan}
use Rattle.plan.specs.declared.CeiledPlan.{CeiledPlan}
use Rattle.plan.specs.Limits.{most_tasks}
use Rattle.plan.specs.Plan.{owner}
use Rattle.plan.specs.Facts.{Accepted}
use Rattle.state.specs.declared.State.{State}
use Rattle.state.specs.State.{idle_task, task_at, is_idle, in_section}
use Rattle.state.specs.Update.{with_task, with_used}
use Rattle.state.proofs.Update.{task_at_with_task, task_at_with_task_other, task_at_with_used}
use Rattle.state.proofs.TaskUpdate.{idle_sized}
use Rattle.legal.proofs.Tasks.{section_count}
use Rattle.choice.specs.declared.Choice.{Choice}
use Rattle.choice.specs.Choice.{chosen, chosen_task}
use Rattle.choice.specs.Lent.{Lent}
use Rattle.step.specs.Lent.{Settles, spent_at}
use Rattle.step.specs.Events.{ended_task}
use Rattle.step.specs.Tick.{Shut, is_spent, shut_one, shut_turns, shut_spent}
use Rattle.step.proofs.Kept.{Kept}
use Rattle.step.proofs.Freed.{shut_kept}
use Rattle.step.proofs.Spent.{section_takes}

-- the bit of task k, if it is idle
abbrev idle_bit : State → ℕ → ℕ
idle_bit s k = cond (is_idle (task_at s k)) (2 ^ k) 0

-- a bit or none
bit_or_none : (b : Bool) (n : ℕ) → cond b n 0 ≤ n
bit_or_none true n = omega arith
bit_or_none false n = omega arith

-- all bits
all_bits : sum most_tasks (λ k. 2 ^ k) ≡ 4294967295
unfolding sum
all_bits = refl

-- those of the idle tasks fit
idle_bits_most : (s : State) → sum most_tasks (idle_bit s) ≤ 4294967295
idle_bits_most s = omega (arith, all_bits, sum_rises most_tasks (idle_bit s) (λ k. 2 ^ k) (λ k h. bit_or_none (is_idle (task_at s k)) (2 ^ k)))

-- one turn
module _ (p : Plan) (s : State) (A : Accepted p) (S : Kept p s) (k : ℕ) (h : k < p.tasks) (i : in_section p (task_at s k) ≡ true) where
  -- the state after it
  abbrev u : State
  u = with_used (ended_task s k) (owner p k) 0

  -- a row of the list
  k_most : k < most_tasks
  k_most = omega (arith, A.tasks_most)

  -- who holds something is not idle
  was_busy : is_idle (task_at s k) ≡ false
  was_busy =
      let T = S.legal.task k h in
      fails _ (λ e. absurd (omega (arith, section_count p k (task_at s k) T i, T.resting (or_left _ _ e))))

  -- and is idle afterwards
  now_idle : is_idle (task_at u k) ≡ true
  unfolding ended_task is_idle idle_task
  now_idle = ap is_idle (task_at_with_used (with_task s k idle_task) (owner p k) 0 k ∙ task_at_with_task s k idle_task S.sized k_most idle_sized)

  -- the others are as before
  others : (j : ℕ) → j ≢ k → task_at u j ≡ task_at s j
  unfolding ended_task
  others j n = task_at_with_used (with_task s k idle_task) (owner p k) 0 j ∙ task_at_with_task_other s k idle_task j n

  -- so its bit is a new one
  bit_new : idle_bit s k + 2 ^ k ≤ idle_bit u k
  bit_new = rw (was_busy, now_idle) (omega arith)

  idle_bits_grow : sum most_tasks (idle_bit s) + 2 ^ k ≤ sum most_tasks (idle_bit u)
  idle_bits_grow = sum_falls most_tasks (idle_bit s) (idle_bit u) (2 ^ k) k k_most bit_new (λ j l. go j (eqb j k) refl)
    where
      go : (j : ℕ) (b : Bool) → eqb j k ≡ b → idle_bit s j ≤ idle_bit u j
      go j true e = rw (eqb-true j k e) (omega (arith, bit_new))
      go j false e = rw (others j (eqb-false j k e)) (omega arith)

-- (a) by its turns

module _ (p : Plan) (x : Shut) where
  turns_spent : (n : ℕ) → is_spent p x.state ≡ true → shut_turns (suc n) p x ≡ shut_turns n p (shut_one p x (chosen_task p x.state))
  unfolding shut_turns
  turns_spent n e = rw (e, shut_turns)

  turns_unspent : (n : ℕ) → is_spent p x.state ≡ false → shut_turns n p x ≡ x
  unfolding shut_turns
  turns_unspent zero e = refl
  turns_unspent (suc n) e = rw (e, shut_turns)

-- a choice is that of a state
abbrev pub Chooses : Plan → State → Choice → Type 0
Chooses p s d = (d.subsystem ≡ chosen p s) × (d.task ≡ chosen_task p s)

-- what holds after some turns: c is the choice, and so many turns are left
pub record Settling (p : Plan) (start x : Shut) (c : Choice) (turn : ℕ) : Type 0 where
  pub kept : Kept p x.state
  pub chooses : Chooses p x.state c
  pub turns : shut_turns p.subsystems p start ≡ shut_turns (p.subsystems - turn) p x
  pub few : x.ended ≤ sum most_tasks (idle_bit x.state)

-- before the first
pub begun : (p : Plan) (s : State) (c : Choice) → Kept p s → Chooses p s c → Settling p (record { state = s; ended = 0 }) (record { state = s; ended = 0 }) c 0
begun p s c S C =
    record { kept = S; chooses = C; turns = ap (λ (n : ℕ). shut_turns n p (record { state = s; ended = 0 })) (omega arith); few = omega arith }

module _ (p : Plan) (A : Accepted p) (start x : Shut) (c : Choice) (turn : ℕ) (S : Settling p start x c turn) where
  -- the code's test is that of the definition
  test_is : spent_at p x.state c.task ≡ is_spent p x.state
  unfolding spent_at is_spent
  test_is = rw S.chooses.1

  -- one more turn
  module _ (e : spent_at p x.state c.task ≡ true) where
    -- the chosen task holds a global
    inside : in_section p (task_at x.state c.task) ≡ true
    unfolding spent_at
    inside = search conjuncts

    -- and is there
    there : c.task < p.tasks
    there = rw S.chooses.1 (section_takes p x.state S.kept.sized (rw S.chooses.1 at inside)).there

    pub task_most : c.task < 32
    task_most = omega (arith, there, A.tasks_most)

    -- what the set becomes
    more : x.ended + 2 ^ c.task ≤ sum most_tasks (idle_bit (with_used (ended_task x.state c.task) (owner p c.task) 0))
    more = omega (arith, S.few, idle_bits_grow p x.state A S.kept c.task there inside)

    pub ended_fits : x.ended + 2 ^ c.task < 4294967296
    ended_fits = omega (arith, more, idle_bits_most (with_used (ended_task x.state c.task) (owner p c.task) 0))

    pub turned_kept : (y : Shut) → y ≡ shut_one p x c.task → Kept p y.state
    unfolding shut_one
    turned_kept y q = rw q (shut_kept p x.state A S.kept c.task there inside)

    -- one turn fewer is left
    one_fewer : turn < p.subsystems → shut_turns (p.subsystems - turn) p x ≡ shut_turns (p.subsystems - (turn + 1)) p (shut_one p x c.task)
    one_fewer l =
        ap (λ (n : ℕ). shut_turns n p x) (omega arith)
        ∙ turns_spent p x (p.subsystems - (turn + 1)) (sym test_is ∙ e)
        ∙ ap (λ (k : ℕ). shut_turns (p.subsystems - (turn + 1)) p (shut_one p x k)) (sym S.chooses.1)

    pub turned : (y : Shut) (d : Choice) → turn < p.subsystems → y ≡ shut_one p x c.task → Chooses p y.state d → Settling p start y d (turn + 1)
    unfolding shut_one
    turned y d l q C =
        record {
          kept = turned_kept y q;
          chooses = C;
          turns = S.turns ∙ one_fewer l ∙ ap (shut_turns (p.subsystems - (turn + 1)) p) (sym q);
          few = rw q more;
        }

  -- after the last

  pub turns_over : p.subsystems ≤ turn → x ≡ shut_turns p.subsystems p start
  unfolding shut_turns
  turns_over l =
      let z : p.subsystems - turn ≡ 0 = omega arith in
      sym (S.turns ∙ ap (λ (n : ℕ). shut_turns n p x) z)

  pub none_spent : spent_at p x.state c.task ≡ false → x ≡ shut_turns p.subsystems p start
  none_spent e = sym (S.turns ∙ turns_unspent p x (p.subsystems - turn) (sym test_is ∙ e))

-- the choice is that of the state after (a)
pub settled : (p : Plan) (s : State) (x : Shut) (d : Choice) → x ≡ shut_turns p.subsystems p (record { state = s; ended = 0 }) → Chooses p x.state d
    → Settles p s x.state (record { ended = x.ended; subsystem = d.subsystem; task = d.task })
unfolding shut_spent
settled p s x d e C = record { state = ap (λ (y : Shut). y.state) e; ended = ap (λ (y : Shut). y.ended) e; subsystem = C.0; task = C.1 }

-- one turn
shut_is : (p : Plan) (x : Shut) (k : ℕ) (u : State) (n : ℕ) → u ≡ with_used (ended_task x.state k) (owner p k) 0 → n ≡ x.ended + 2 ^ k
    → record { state = u; ended = n } ≡ shut_one p x k
unfolding shut_one
shut_is p x k u n f g = rw (f, g)

-- what is lent stays lent
pub lent_after : (c : CeiledPlan) (s u : State) → Lent c s → Kept c.plan u → Lent c u
lent_after c s u L S = record { accepted = L.accepted; ceilings = L.ceilings; legal = S.legal }

-- a turn of the code: what its calls ask is there
pub again : (c : CeiledPlan) (s : State) (L : Lent c s) (start x : Shut) (d : Choice) (turn : ℕ) → Settling c.plan start x d turn
    → turn < c.plan.subsystems → spent_at c.plan x.state d.task ≡ true
    → (u : State) (n : ℕ) (e : Choice)
    → u ≡ with_used (ended_task x.state d.task) (owner c.plan d.task) 0
    → (d.task < 32 → x.ended + 2 ^ d.task < 4294967296 → n ≡ x.ended + 2 ^ d.task)
    → (Lent c u → Chooses c.plan u e)
    → Settling c.plan start (record { state = u; ended = n }) e (turn + 1)
again c s L start x d turn S l t u n e shut more choose =
    let A = L.accepted in
    let y : Shut = record { state = u; ended = n } in
    let q = shut_is c.plan x d.task u n shut (more (task_most c.plan A start x d turn S t) (ended_fits c.plan A start x d turn S t)) in
    turned c.plan A start x d turn S t y e l q (choose (lent_after c s u L (turned_kept c.plan A start x d turn S t y q)))
