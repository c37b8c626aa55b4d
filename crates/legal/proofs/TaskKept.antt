-- "State": a task readied, started, made to wait, taking or giving back a resource is legal by itself.
use mathlib.Core.Path.{◌≡◌, refl, sym, ◌∙◌}
use mathlib.Core.Logic.{⊎_elim}
use mathlib.Core.Bool.{true, false, false≢true, true≢false}
use Prim.Native.Nat.{ℕ, ◌+◌, ◌-◌, ◌≤◌, ◌<◌}
use native.Mathlib.Nat.{eq-or-lt_of_le}
use native.Mathlib.Numerals.{add-one}
use native.Mathlib.Omega.{arith}
use lib.ListN.{length}
use borrow.Author.Tests.{eq-eqb}
use Rattle.below.proofs.Search.{any_of, last_or_before}
use Rattle.below.proofs.Tests.{clash, fails}
use Rattle.plan.specs.declared.Plan.{Plan}
use Rattle.plan.specs.Plan.{is_global, declares}
use Rattle.state.specs.declared.Task.{Task}
use Rattle.state.specs.State.{most_held, is_idle, is_ready, is_waiting, held_at, holds, last_held, in_section}
use Rattle.state.specs.Update.{readied, started, waiting_for, taking, giving_back}
use Rattle.state.proofs.TaskUpdate.{readied_held, readied_waiting, started_held, started_waiting, waiting_for_held, waiting_for_section, taking_held, taking_held_other, taking_waiting, giving_back_held, giving_back_held_last, giving_back_waiting, giving_back_count}
use Rattle.legal.specs.Facts.{HeldLegal, TaskLegal}
use Rattle.legal.proofs.Tasks.{section_count, section_global, global_section}

-- the i-th held resource stays legal where the places up to it stay
held_kept : (p : Plan) (k : ℕ) (t u : Task) (i : ℕ) → ((j : ℕ) → j ≤ i → held_at u j ≡ held_at t j) → (is_global p (held_at t i) ≡ true → i + 1 ≡ u.count) → HeldLegal p k t i
    → HeldLegal p k u i
held_kept p k t u i same last H =
    record {
      there = rw (same i (omega arith)) H.there;
      declared = rw (same i (omega arith)) H.declared;
      distinct = λ j l e. H.distinct j l (sym (same j (omega arith)) ∙ e ∙ same i (omega arith));
      global_last = λ g. last (rw (same i (omega arith)) at g);
    }

-- it holds r at a place, so it holds r
pub place_holds : (t : Task) (r i : ℕ) → i < t.count → held_at t i ≡ r → holds t r ≡ true
unfolding holds
place_holds t r i l e = any_of t.count _ i l (eq-eqb _ _ e)

module _ (p : Plan) (k : ℕ) (t : Task) (T : TaskLegal p k t) where
  -- readied, holding nothing
  pub readied_legal : t.count ≡ 0 → TaskLegal p k (readied t)
  unfolding readied
  readied_legal z =
      record {
        condition = omega arith;
        count = T.count;
        unheld = λ i l m. readied_held t i ∙ T.unheld i l m;
        unawaited = λ w. refl;
        held = λ i l. absurd (omega arith);
        resting = λ e. z;
        waiting = λ w. absurd (clash w (readied_waiting t));
      }

  -- started
  pub started_legal : TaskLegal p k (started t)
  unfolding started is_idle is_ready
  started_legal =
      record {
        condition = omega arith;
        count = T.count;
        unheld = λ i l m. started_held t i ∙ T.unheld i l m;
        unawaited = λ w. refl;
        held = λ i l. held_kept p k t (started t) i (λ j m. started_held t j) (T.held i l).global_last (T.held i l);
        resting = λ e. absurd (false≢true e);
        waiting = λ w. absurd (clash w (started_waiting t));
      }

  module _ (r : ℕ) (there : r < p.resources) (declared : declares p k r ≡ true) (outside : in_section p t ≡ false) where
    -- waiting for a global
    pub waiting_for_legal : is_global p r ≡ true → t.count ≤ 3 → TaskLegal p k (waiting_for t r)
    unfolding waiting_for is_idle is_ready is_waiting
    waiting_for_legal g room =
        record {
          condition = omega arith;
          count = T.count;
          unheld = λ i l m. waiting_for_held t r i ∙ T.unheld i l m;
          unawaited = λ w. absurd (true≢false w);
          held = λ i l. held_kept p k t (waiting_for t r) i (λ j m. waiting_for_held t r j) (T.held i l).global_last (T.held i l);
          resting = λ e. absurd (false≢true e);
          waiting = λ w. record { there = there; global = g; declared = declared; outside = waiting_for_section t r p ∙ outside; room = room };
        }

    -- what it holds before is local
    local_before : (i : ℕ) → i < t.count → is_global p (held_at t i) ≡ true → ⊥
    local_before i l g = clash (global_section p k t T i l g).0 outside

    module _ (l : length t.held ≡ most_held) (room : t.count < most_held) (free : holds t r ≡ false) where
      -- the resource taken
      taking_held_legal : HeldLegal p k (taking t r) t.count
      unfolding taking
      taking_held_legal =
          let q = taking_held t r l room in
          record {
            there = rw q there;
            declared = rw q declared;
            distinct = λ j m e. clash (place_holds t r j m (sym (taking_held_other t r j (omega arith)) ∙ e ∙ q)) free;
            global_last = λ g. refl;
          }

      -- those held before
      taking_other_legal : (i : ℕ) → i < t.count → HeldLegal p k (taking t r) i
      taking_other_legal i m =
          held_kept p k t (taking t r) i (λ j n. taking_held_other t r j (omega arith)) (λ g. absurd (local_before i m g)) (T.held i m)

      -- with one resource more
      pub taking_legal : TaskLegal p k (taking t r)
      unfolding taking is_idle is_ready
      taking_legal =
          record {
            condition = omega arith;
            count = omega arith;
            unheld = λ i m n. taking_held_other t r i (omega arith) ∙ T.unheld i m (omega arith);
            unawaited = λ w. refl;
            held = λ i m. ⊎_elim (λ q. rw q taking_held_legal) (taking_other_legal i) (last_or_before (rw add-one at m));
            resting = λ e. absurd (false≢true e);
            waiting = λ w. absurd (clash w (taking_waiting t r));
          }

  module _ (l : length t.held ≡ most_held) (some : 1 ≤ t.count) (runs : is_waiting t ≡ false) where
    -- with one less
    pub giving_back_legal : TaskLegal p k (giving_back t)
    unfolding giving_back is_idle is_ready is_waiting
    giving_back_legal =
        record {
          condition = T.condition;
          count = omega (arith, T.count);
          unheld = λ i m n. ⊎_elim
              (λ q. rw (← q) (giving_back_held_last t l (omega (arith, T.count))))
              (λ q. giving_back_held t i (omega arith) ∙ T.unheld i m (omega arith))
              (eq-or-lt_of_le n);
          unawaited = T.unawaited;
          held = λ i m.
              let H = T.held i (omega arith) in
              held_kept p k t (giving_back t) i (λ j n. giving_back_held t j (omega arith)) (λ g. absurd (omega (arith, H.global_last g))) H;
          resting = λ e. omega (arith, T.resting e);
          waiting = λ w. absurd (clash w (giving_back_waiting t ∙ runs));
        }

    -- what is left is local
    pub giving_back_section : in_section p (giving_back t) ≡ false
    unfolding last_held
    giving_back_section = fails _ (λ i. last (section_count p k (giving_back t) giving_back_legal i) (section_global p k (giving_back t) giving_back_legal i))
      where
        last : 1 ≤ (giving_back t).count → is_global p (last_held (giving_back t)) ≡ true → ⊥
        last m g =
            let c = giving_back_count t in
            let n = (giving_back t).count - 1 in
            let v = rw (giving_back_held t n (omega arith)) at g in
            omega (arith, (T.held n (omega arith)).global_last v)
