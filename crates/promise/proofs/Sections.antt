-- A section never keeps the processor from a higher row for longer than its declared length: each tick to a lower row takes one from what is left of it.
use mathlib.Core.Path.{◌≡◌, refl}
use mathlib.Core.Bool.{Bool, true, false, cond}
use mathlib.Core.List.{List, [], ◌∷◌}
use Prim.Native.Nat.{ℕ, ◌+◌, ◌≤◌, ◌<◌}
use native.Mathlib.Nat.{le_trans}
use native.Mathlib.Omega.{arith}
use lib.Dec.{ltb}
use borrow.Author.Tests.{ltb-true, le-leb, lt-leb}
use Rattle.below.specs.Below.{any}
use Rattle.below.proofs.Search.{any_true, any_false}
use Rattle.supply.specs.Assumed.{Pressed, at_least_as_high}
use Rattle.plan.specs.declared.Plan.{Plan}
use Rattle.plan.specs.Plan.{level}
use Rattle.plan.specs.Facts.{Accepted}
use Rattle.plan.proofs.Facts.{accepted_facts}
use Rattle.state.specs.declared.State.{State}
use Rattle.state.specs.State.{task_at, section_left}
use Rattle.legal.specs.Facts.{Legal}
use Rattle.legal.proofs.Facts.{legal_facts}
use Rattle.legal.proofs.Tasks.{section_global, section_declares}
use Rattle.step.specs.Step.{stepped}
use Rattle.step.specs.Strict.{holds_back, strict_of}
use Rattle.step.proofs.Kept.{Kept}
use Rattle.step.proofs.Strict.{HoldsBack, holds_back_facts, strict_one, strict_none, strict_blocking}
use Rattle.promise.specs.Budgets.{Event, is_tick, outcomes, of_ticks, tick_answers}
use Rattle.promise.specs.Sections.{Due, DueThroughout, count_lower, WithinSection, SectionsBounded}
use Rattle.promise.proofs.Scheduler.{given, scheduler, scheduler_assumed}

-- what an event gives to lower rows and leaves of what holds the row back
module _ (p : Plan) (A : Accepted p) (row : ℕ) (there : row < p.subsystems) where
  -- the assumption in the words of `supply`
  due : (s : State) → Due p s row → Pressed (scheduler p) s row
  unfolding at_least_as_high
  due s D = record { row = D.by; there = D.there; high = le-leb _ _ D.high; busy = D.busy }

  module _ (s : State) (S : Kept p s) (D : Due p s row) (e : Event) where
    -- no event adds to it
    kept : strict_of p (given p s e).state row ≤ strict_of p s row
    kept = (scheduler_assumed p A).strict_kept s e S row there (due s D)

    -- a tick to a lower row takes one from it
    tick_takes : is_tick e ≡ true → cond (ltb (level p row) (level p (given p s e).subsystem)) 1 0 + strict_of p (given p s e).state row ≤ strict_of p s row
    unfolding at_least_as_high
    tick_takes t = go (ltb (level p row) (level p (given p s e).subsystem)) refl
      where
        go : (b : Bool) → ltb (level p row) (level p (given p s e).subsystem) ≡ b → cond b 1 0 + strict_of p (given p s e).state row ≤ strict_of p s row
        go true q =
            let c = (scheduler_assumed p A).busy_charged s e S t D.by D.there D.busy in
            omega (arith, (scheduler_assumed p A).strict_falls s e S row there (due s D) t c (lt-leb (level p (given p s e).subsystem) (level p row) (ltb-true _ _ q)))
        go false q = omega (arith, kept)

  -- the ticks to lower rows are at most what holds the row back to begin with
  Bounded : State → List Event → Type 0
  Bounded s es = count_lower p row (tick_answers es (outcomes (stepped p) s es)) ≤ strict_of p s row

  bounded_next : (s : State) (S : Kept p s) (D : Due p s row) (e : Event) (es : List Event) → Bounded (given p s e).state es → Bounded s (e ∷ es)
  unfolding Bounded count_lower tick_answers of_ticks outcomes
  bounded_next s S D e es h = go (is_tick e) refl
    where
      rest : List ℕ
      rest = tick_answers es (outcomes (stepped p) (given p s e).state es)

      go : (b : Bool) → is_tick e ≡ b → count_lower p row (elim b [ true ↦ (given p s e).subsystem ∷ rest | false ↦ rest ]) ≤ strict_of p s row
      go true t = omega (arith, tick_takes s S D e t)
      go false t = le_trans h (kept s S D e)

  bounded : (s : State) → Kept p s → (es : List Event) → DueThroughout p s row es → Bounded s es
  unfolding Bounded count_lower tick_answers of_ticks outcomes
  bounded s S [] D = omega arith
  bounded s S (e ∷ es) D = bounded_next s S D.0 e es (bounded (given p s e).state ((scheduler_assumed p A).legal_next s e S) es D.1)

-- what holds a row back is what is left of one section, of a task of a lower row
module _ (p : Plan) (s : State) (L : Legal p s) (row : ℕ) where
  within : (n k : ℕ) → k < p.tasks → n ≤ strict_of p s row → HoldsBack p s row k → WithinSection p s row n
  unfolding section_left
  within n k h l H = record {
    task = k;
    there = h;
    lower = H.lower;
    inside = H.inside;
    global = section_global p k (task_at s k) (L.task k h) H.inside;
    reaches = H.reaches;
    declared = section_declares p k (task_at s k) (L.task k h) H.inside;
    left = omega (arith, strict_one p s L row k h H);
    length = omega (arith, strict_one p s L row k h H);
  }

  one_section : (n : ℕ) → 0 < n → n ≤ strict_of p s row → WithinSection p s row n
  one_section n o l = go (any p.tasks (holds_back p s row)) refl
    where
      go : (b : Bool) → any p.tasks (holds_back p s row) ≡ b → WithinSection p s row n
      go true e =
          let w = any_true p.tasks (holds_back p s row) e in
          within n w.at w.there l (holds_back_facts p s row w.at w.passes)
      go false e = absurd (omega (arith, strict_none p s L row (any_false p.tasks (holds_back p s row) e)))

-- no section outstays its length
pub sections_bounded : SectionsBounded
unfolding Bounded
sections_bounded p a s Z l row there es D =
    let A = accepted_facts p a in
    let L = legal_facts p s A l in
    let b = bounded p A row there s (record { sized = Z; legal = L }) es D in
    record { section = λ o. one_section p s L row _ o b; most = le_trans b (strict_blocking p s L row) }
