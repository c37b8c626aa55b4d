-- A task readied, started, made to wait, taking or giving back a resource, or idle: what it is and holds afterwards.
use mathlib.Core.Path.{◌≡◌, refl, ◌∙◌}
use mathlib.Core.Logic.{◌≢◌}
use mathlib.Core.Bool.{true, false}
use Prim.Native.Nat.{ℕ, ◌+◌, ◌-◌, ◌<◌, ◌≤◌}
use native.Mathlib.Omega.{arith}
use lib.ListN.{length, length-set, get_or-replicate}
use lib.Seq.{get_or-set_same, get_or-set_other}
use borrow.Author.Tests.{le-leb}
use Rattle.plan.specs.declared.Plan.{Plan}
use Rattle.plan.specs.Limits.{no_row}
use Rattle.plan.specs.Plan.{is_global}
use Rattle.state.specs.declared.Task.{Task}
use Rattle.state.specs.State.{most_held, idle_task, is_started, is_waiting, is_active, held_at, last_held, in_section}
use Rattle.state.specs.Update.{readied, started, waiting_for, taking, giving_back}

-- readied: neither started nor waiting; the holdings stay

module _ (t : Task) where
  pub readied_active : is_active (readied t) ≡ false
  unfolding readied is_active is_started is_waiting
  readied_active = refl

  pub readied_waiting : is_waiting (readied t) ≡ false
  unfolding readied is_waiting
  readied_waiting = refl

  pub readied_count : (readied t).count ≡ t.count
  unfolding readied
  readied_count = refl

  pub readied_held : (i : ℕ) → held_at (readied t) i ≡ held_at t i
  unfolding readied held_at
  readied_held i = refl

  pub readied_last : last_held (readied t) ≡ last_held t
  unfolding readied last_held held_at
  readied_last = refl

  pub readied_sized : length t.held ≡ most_held → length (readied t).held ≡ most_held
  unfolding readied
  readied_sized l = l

  pub readied_section : (p : Plan) → in_section p (readied t) ≡ in_section p t
  unfolding readied in_section last_held held_at
  readied_section p = refl

  -- started: the holdings stay

  pub started_active : is_active (started t) ≡ true
  unfolding started is_active is_started
  started_active = refl

  pub started_waiting : is_waiting (started t) ≡ false
  unfolding started is_waiting
  started_waiting = refl

  pub started_count : (started t).count ≡ t.count
  unfolding started
  started_count = refl

  pub started_held : (i : ℕ) → held_at (started t) i ≡ held_at t i
  unfolding started held_at
  started_held i = refl

  pub started_last : last_held (started t) ≡ last_held t
  unfolding started last_held held_at
  started_last = refl

  pub started_sized : length t.held ≡ most_held → length (started t).held ≡ most_held
  unfolding started
  started_sized l = l

  pub started_section : (p : Plan) → in_section p (started t) ≡ in_section p t
  unfolding started in_section last_held held_at
  started_section p = refl

-- waiting: the holdings stay

module _ (t : Task) (r : ℕ) where
  pub waiting_for_active : is_active (waiting_for t r) ≡ true
  unfolding waiting_for is_active is_started is_waiting
  waiting_for_active = refl

  pub waiting_for_waiting : is_waiting (waiting_for t r) ≡ true
  unfolding waiting_for is_waiting
  waiting_for_waiting = refl

  pub waiting_for_count : (waiting_for t r).count ≡ t.count
  unfolding waiting_for
  waiting_for_count = refl

  pub waiting_for_held : (i : ℕ) → held_at (waiting_for t r) i ≡ held_at t i
  unfolding waiting_for held_at
  waiting_for_held i = refl

  pub waiting_for_last : last_held (waiting_for t r) ≡ last_held t
  unfolding waiting_for last_held held_at
  waiting_for_last = refl

  pub waiting_for_sized : length t.held ≡ most_held → length (waiting_for t r).held ≡ most_held
  unfolding waiting_for
  waiting_for_sized l = l

  pub waiting_for_section : (p : Plan) → in_section p (waiting_for t r) ≡ in_section p t
  unfolding waiting_for in_section last_held held_at
  waiting_for_section p = refl

  -- taking: one more, the last, in the place after those held before

  pub taking_active : is_active (taking t r) ≡ true
  unfolding taking is_active is_started
  taking_active = refl

  pub taking_waiting : is_waiting (taking t r) ≡ false
  unfolding taking is_waiting
  taking_waiting = refl

  pub taking_count : (taking t r).count ≡ t.count + 1
  unfolding taking
  taking_count = refl

  pub taking_held_other : (i : ℕ) → i ≢ t.count → held_at (taking t r) i ≡ held_at t i
  unfolding taking held_at
  taking_held_other i n = get_or-set_other t.held t.count i r no_row n

  pub taking_sized : length t.held ≡ most_held → length (taking t r).held ≡ most_held
  unfolding taking
  taking_sized l = length-set t.held t.count r ∙ l

  module _ (l : length t.held ≡ most_held) (room : t.count < most_held) where
    -- what is taken stands there
    pub taking_held : held_at (taking t r) t.count ≡ r
    unfolding taking held_at
    taking_held = get_or-set_same t.held t.count r no_row (rw l room)

    -- it is the last
    pub taking_last : last_held (taking t r) ≡ r
    unfolding last_held
    taking_last =
        let e : (taking t r).count - 1 ≡ t.count = omega (arith, taking_count) in
        rw e taking_held

    -- inside a section where it is a global
    pub taking_section : (p : Plan) → in_section p (taking t r) ≡ is_global p r
    unfolding in_section
    taking_section p =
        let e : 1 ≤ (taking t r).count = omega (arith, taking_count) in
        rw (le-leb 1 (taking t r).count e, taking_last)

-- giving back: one less; those before it stay

module _ (t : Task) where
  pub giving_back_active : is_active (giving_back t) ≡ is_active t
  unfolding giving_back is_active is_started is_waiting
  giving_back_active = refl

  pub giving_back_waiting : is_waiting (giving_back t) ≡ is_waiting t
  unfolding giving_back is_waiting
  giving_back_waiting = refl

  pub giving_back_count : (giving_back t).count ≡ t.count - 1
  unfolding giving_back
  giving_back_count = refl

  pub giving_back_held : (i : ℕ) → i ≢ t.count - 1 → held_at (giving_back t) i ≡ held_at t i
  unfolding giving_back held_at
  giving_back_held i n = get_or-set_other t.held (t.count - 1) i no_row no_row n

  pub giving_back_held_last : length t.held ≡ most_held → t.count - 1 < most_held → held_at (giving_back t) (t.count - 1) ≡ no_row
  unfolding giving_back held_at
  giving_back_held_last l h = get_or-set_same t.held (t.count - 1) no_row no_row (rw l h)

  pub giving_back_sized : length t.held ≡ most_held → length (giving_back t).held ≡ most_held
  unfolding giving_back
  giving_back_sized l = length-set t.held (t.count - 1) no_row ∙ l

-- idle: nothing

pub idle_active : is_active idle_task ≡ false
unfolding idle_task is_active is_started is_waiting
idle_active = refl

pub idle_waiting : is_waiting idle_task ≡ false
unfolding idle_task is_waiting
idle_waiting = refl

pub idle_count : idle_task.count ≡ 0
unfolding idle_task
idle_count = refl

pub idle_held : (i : ℕ) → i < most_held → held_at idle_task i ≡ no_row
unfolding idle_task held_at
idle_held i h = get_or-replicate most_held i no_row no_row h

pub idle_section : (p : Plan) → in_section p idle_task ≡ false
unfolding idle_task in_section
idle_section p = refl

pub idle_sized : length idle_task.held ≡ most_held
unfolding idle_task
idle_sized = refl
