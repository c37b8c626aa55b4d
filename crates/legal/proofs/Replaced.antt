-- "State": one task replaced by another: when the tasks are legal afterwards.
use mathlib.Core.Path.{◌≡◌, refl, sym, ap, ◌∙◌}
use mathlib.Core.Logic.{◌≢◌, ◌⊎◌, inl, inr, ⊎_elim}
use mathlib.Core.Bool.{Bool, true, false}
use Prim.Native.Nat.{ℕ, ◌<◌}
use native.Mathlib.Omega.{arith}
use lib.Dec.{eqb}
use borrow.Author.Tests.{eqb-true, eqb-false}
use Rattle.below.proofs.Tests.{clash}
use Rattle.plan.specs.declared.Plan.{Plan}
use Rattle.plan.specs.Plan.{owner, is_global, taken_before}
use Rattle.plan.specs.Ceiling.{local_ceiling}
use Rattle.plan.proofs.Order.{before_irrefl}
use Rattle.state.specs.declared.Task.{Task}
use Rattle.state.specs.State.{is_active, held_at, in_section}
use Rattle.legal.specs.Facts.{TaskLegal}
use Rattle.legal.proofs.Parts.{Engaged, Ahead, Under, Tasks}

-- t may stand at row k among the other tasks: what it holds binds those taken before it, and those that it is taken before bind it
pub record Fits (p : Plan) (at : ℕ → Task) (k : ℕ) (t : Task) : Type 0 where
  pub task : TaskLegal p k t
  pub binds_locals : (i : ℕ) → i < t.count → is_global p (held_at t i) ≡ false → (j : ℕ) → j < p.tasks → Ahead p at j k → taken_before p j (local_ceiling p (held_at t i)) ≡ true
  pub binds_globals : Engaged p t → (j : ℕ) → j < p.tasks → Ahead p at j k → ⊥
  pub bound_locals : is_active t ≡ true → (h i : ℕ) → h < p.tasks → i < (at h).count → is_global p (held_at (at h) i) ≡ false → owner p k ≡ owner p h → taken_before p k h ≡ true
      → taken_before p k (local_ceiling p (held_at (at h) i)) ≡ true
  pub bound_globals : is_active t ≡ true → (h : ℕ) → h < p.tasks → Engaged p (at h) → owner p k ≡ owner p h → taken_before p k h ≡ true → ⊥
  pub sections : in_section p t ≡ true → (j : ℕ) → j < p.tasks → in_section p (at j) ≡ true → (owner p k ≡ owner p j → ⊥) → Under p k (at j) ⊎ Under p j t

module _ (p : Plan) (at to : ℕ → Task) (T : Tasks p at) (k : ℕ) (there : k < p.tasks) (F : Fits p at k (to k)) (same : (j : ℕ) → j ≢ k → to j ≡ at j) where
  -- a row is k, or its task is as before
  row : (j : ℕ) → (j ≡ k) ⊎ (j ≢ k)
  row j = go (eqb j k) refl
    where
      go : (b : Bool) → eqb j k ≡ b → (j ≡ k) ⊎ (j ≢ k)
      go true e = inl (eqb-true j k e)
      go false e = inr (eqb-false j k e)

  -- another row that is ahead was ahead
  ahead_same : (j h : ℕ) → j ≢ k → Ahead p to j h → Ahead p at j h
  ahead_same j h n a = record { owned = a.owned; before = a.before; active = rw (same j n) at a.active }

  -- no task is ahead of itself
  ahead_self : (j : ℕ) → Ahead p to j j → ⊥
  ahead_self j a = clash a.before (before_irrefl p j)

  -- who is ahead of a holder of locals
  locals_after : (h i : ℕ) → h < p.tasks → i < (to h).count → is_global p (held_at (to h) i) ≡ false → (j : ℕ) → j < p.tasks → Ahead p to j h
      → taken_before p j (local_ceiling p (held_at (to h) i)) ≡ true
  locals_after h i l m g j n a = go (row h) (row j)
    where
      go : (h ≡ k) ⊎ (h ≢ k) → (j ≡ k) ⊎ (j ≢ k) → taken_before p j (local_ceiling p (held_at (to h) i)) ≡ true
      go (inl q) (inl r) = absurd (ahead_self k (rw (q, r) at a))
      go (inl q) (inr v) = rw q (F.binds_locals i (rw q at m) (rw q at g) j n (ahead_same j k v (rw q at a)))
      go (inr u) (inl r) =
          rw (r, same h u)
          (F.bound_locals (rw r at a.active) h i l (rw (same h u) at m) (rw (same h u) at g) (rw r at a.owned) (rw r at a.before))
      go (inr u) (inr v) = rw (same h u) (T.locals h i l (rw (same h u) at m) (rw (same h u) at g) j n (ahead_same j h v a))

  -- who is ahead of one that waits or holds a global
  globals_after : (h : ℕ) → h < p.tasks → Engaged p (to h) → (j : ℕ) → j < p.tasks → Ahead p to j h → ⊥
  globals_after h l e j n a = go (row h) (row j)
    where
      go : (h ≡ k) ⊎ (h ≢ k) → (j ≡ k) ⊎ (j ≢ k) → ⊥
      go (inl q) (inl r) = ahead_self k (rw (q, r) at a)
      go (inl q) (inr v) = F.binds_globals (rw q at e) j n (ahead_same j k v (rw q at a))
      go (inr u) (inl r) = F.bound_globals (rw r at a.active) h l (rw (same h u) at e) (rw r at a.owned) (rw r at a.before)
      go (inr u) (inr v) = T.globals h l (rw (same h u) at e) j n (ahead_same j h v a)

  -- two subsystems with globals
  sections_after : (j h : ℕ) → j < p.tasks → h < p.tasks → in_section p (to j) ≡ true → in_section p (to h) ≡ true → (owner p j ≡ owner p h → ⊥)
      → Under p j (to h) ⊎ Under p h (to j)
  sections_after j h l m a b n = go (row j) (row h)
    where
      go : (j ≡ k) ⊎ (j ≢ k) → (h ≡ k) ⊎ (h ≢ k) → Under p j (to h) ⊎ Under p h (to j)
      go (inl q) (inl r) = absurd (n (ap (owner p) (q ∙ sym r)))
      go (inl q) (inr v) = rw (q, same h v) (F.sections (rw q at a) h m (rw (same h v) at b) (rw q at n))
      go (inr u) (inl r) = rw (r, same j u) (⊎_elim inr inl (F.sections (rw r at b) j l (rw (same j u) at a) (λ o. n (rw r (sym o)))))
      go (inr u) (inr v) = rw (same j u, same h v) (T.sections j h l m (rw (same j u) at a) (rw (same h v) at b) n)

  -- each task by itself
  task_after : (j : ℕ) → j < p.tasks → TaskLegal p j (to j)
  task_after j l = go (row j)
    where
      go : (j ≡ k) ⊎ (j ≢ k) → TaskLegal p j (to j)
      go (inl q) = rw q F.task
      go (inr u) = rw (same j u) (T.task j l)

  -- all together
  pub replaced : Tasks p to
  replaced =
      record {
        absent = λ j l h. rw (same j (omega arith)) (T.absent j l h);
        task = task_after;
        locals = locals_after;
        globals = globals_after;
        sections = sections_after;
      }
