-- "State": what follows for the tasks of a legal state, each by itself and two together.
use mathlib.Core.Path.{◌≡◌, refl, sym}
use mathlib.Core.Logic.{◌⊎◌, inl, inr, ⊎_elim}
use mathlib.Core.Bool.{true, false, ◌||◌}
use Prim.Native.Nat.{ℕ, zero, suc, ◌-◌, ◌≤◌, ◌<◌}
use native.Mathlib.Omega.{arith}
use lib.Dec.{eqb}
use borrow.Author.Tests.{leb-true, le-leb, eqb-true}
use Rattle.below.proofs.Search.{any_true}
use Rattle.below.proofs.Tests.{fails, conjuncts, or_cases, or_right}
use Rattle.plan.specs.declared.Plan.{Plan}
use Rattle.plan.specs.Plan.{owner, is_global, declares, taken_before}
use Rattle.plan.proofs.Order.{before_total}
use Rattle.state.specs.declared.Task.{Task}
use Rattle.state.specs.State.{is_idle, is_ready, is_started, is_waiting, is_active, held_at, holds, last_held, in_section}
use Rattle.legal.specs.Facts.{HeldLegal, TaskLegal}
use Rattle.legal.proofs.Parts.{Engaged, Tasks}

-- a condition is one of four
condition_cases : (t : Task) → t.condition ≤ 3 → ((is_idle t || is_ready t) ≡ true) ⊎ (is_active t ≡ true)
unfolding is_idle is_ready is_active is_started is_waiting
condition_cases t h = go t.condition h
  where
    go : (n : ℕ) → n ≤ 3 → ((eqb n 0 || eqb n 1) ≡ true) ⊎ ((eqb n 2 || eqb n 3) ≡ true)
    go zero l = inl refl
    go (suc zero) l = inl refl
    go (suc (suc zero)) l = inr refl
    go (suc (suc (suc zero))) l = inr refl
    go (suc (suc (suc (suc n)))) l = absurd (omega arith)

-- who is inside a section counts with those that wait
pub section_engaged : (p : Plan) (t : Task) → in_section p t ≡ true → Engaged p t
section_engaged p t i = or_right (is_waiting t) _ i

-- who holds something is inside a section where the last is a global
pub holder_section : (p : Plan) (t : Task) → 1 ≤ t.count → in_section p t ≡ is_global p (last_held t)
unfolding in_section
holder_section p t h = rw (le-leb 1 t.count h)

module _ (p : Plan) (k : ℕ) (t : Task) (T : TaskLegal p k t) where
  -- who holds something is started or waiting
  pub holder_active : 1 ≤ t.count → is_active t ≡ true
  holder_active h = ⊎_elim (λ r. absurd (omega (arith, T.resting r))) (λ a. a) (condition_cases t T.condition)

  -- who is inside a section holds something, the last a global
  pub section_count : in_section p t ≡ true → 1 ≤ t.count
  unfolding in_section
  section_count i = leb-true 1 t.count (search conjuncts)

  -- the last is a global
  pub section_global : in_section p t ≡ true → is_global p (last_held t) ≡ true
  unfolding in_section
  section_global i = search conjuncts

  -- and legally held
  pub section_held : in_section p t ≡ true → HeldLegal p k t (t.count - 1)
  section_held i = T.held (t.count - 1) (omega (arith, section_count i))

  -- it is there
  pub section_there : in_section p t ≡ true → last_held t < p.resources
  unfolding last_held
  section_there i = (section_held i).there

  -- and declared
  pub section_declares : in_section p t ≡ true → declares p k (last_held t) ≡ true
  unfolding last_held
  section_declares i = (section_held i).declared

  -- the task is started or waiting
  pub section_active : in_section p t ≡ true → is_active t ≡ true
  section_active i = holder_active (section_count i)

  -- who waits or is inside a section is started or waiting
  pub engaged_active : Engaged p t → is_active t ≡ true
  unfolding is_active
  engaged_active e = ⊎_elim (λ w. or_right (is_started t) _ w) section_active (or_cases _ _ e)

  -- a held global is the last, and its holder inside a section
  pub global_section : (i : ℕ) → i < t.count → is_global p (held_at t i) ≡ true → (in_section p t ≡ true) × (last_held t ≡ held_at t i)
  unfolding in_section last_held
  global_section i h g =
      let q : t.count - 1 ≡ i = omega (arith, (T.held i h).global_last g) in
      (rw (le-leb 1 t.count (omega arith), q) g, rw q)

-- a place where a resource is held
pub record HeldPlace (t : Task) (r : ℕ) : Type 0 where
  pub place : ℕ
  pub within : place < t.count
  pub is : held_at t place ≡ r

-- what is held is held at a place
pub holds_place : (t : Task) (r : ℕ) → holds t r ≡ true → HeldPlace t r
unfolding holds
holds_place t r e =
    let w = any_true t.count _ e in
    record { place = w.at; within = w.there; is = eqb-true _ _ w.passes }

-- of two tasks of one subsystem that wait or are inside a section, neither is ahead of the other: they are one
pub engaged_one : (p : Plan) (at : ℕ → Task) → Tasks p at → (j k : ℕ) → j < p.tasks → k < p.tasks → Engaged p (at j) → Engaged p (at k) → owner p j ≡ owner p k → j ≡ k
engaged_one p at T j k a b e f o = before_total p j k (none j k a b e f o) (none k j b a f e (sym o))
  where
    none : (j k : ℕ) → j < p.tasks → k < p.tasks → Engaged p (at j) → Engaged p (at k) → owner p j ≡ owner p k → taken_before p j k ≡ false
    none j k a b e f o = fails _ (λ h. T.globals k b f j a (record { owned = o; before = h; active = engaged_active p j (at j) (T.task j a) e }))
