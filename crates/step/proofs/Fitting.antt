-- Which task may take the place of another: an active one at the row taken in its subsystem, and one that holds less at any row.
use mathlib.Core.Path.{◌≡◌, sym, ◌∙◌}
use mathlib.Core.Logic.{◌⊎◌, ⊎_elim}
use mathlib.Core.Bool.{true, false}
use Prim.Native.Nat.{ℕ, ◌≤◌, ◌<◌}
use native.Mathlib.Omega.{arith}
use Rattle.below.proofs.Tests.{clash, fails, or_cases, or_left}
use Rattle.plan.specs.declared.Plan.{Plan}
use Rattle.plan.specs.Plan.{owner}
use Rattle.state.specs.declared.Task.{Task}
use Rattle.state.specs.declared.State.{State}
use Rattle.state.specs.State.{idle_task, task_at, is_active, held_at, last_held, in_section}
use Rattle.state.specs.Update.{readied, giving_back}
use Rattle.state.proofs.TaskUpdate.{readied_active, readied_waiting, readied_section, readied_last, readied_held, readied_count, giving_back_active, giving_back_waiting, giving_back_count, giving_back_held, idle_active, idle_waiting, idle_count, idle_section}
use Rattle.legal.specs.Facts.{TaskLegal}
use Rattle.legal.proofs.Tasks.{section_engaged}
use Rattle.legal.proofs.Parts.{Engaged, Ahead, Under, Tasks}
use Rattle.legal.proofs.Counts.{SameSection}
use Rattle.legal.proofs.Replaced.{Fits}
use Rattle.legal.proofs.Changed.{OthersOutside}
use Rattle.choice.proofs.Taken.{Takes, takes_engaged}

-- how a new section of k stands to those of other subsystems
abbrev pub Crosses : Plan → (ℕ → Task) → ℕ → Task → Type 0
Crosses p at k t = in_section p t ≡ true → (j : ℕ) → j < p.tasks → in_section p (at j) ≡ true → (owner p k ≡ owner p j → ⊥) → Under p k (at j) ⊎ Under p j t

-- the section stays the one it was
pub same_crosses : (p : Plan) (at : ℕ → Task) (k : ℕ) (t : Task) → Tasks p at → k < p.tasks → SameSection p (at k) t → Crosses p at k t
same_crosses p at k t T h S i j l v n =
    let w : in_section p (at k) ≡ true = sym S.inside ∙ i in
    rw (S.last w) (T.sections k j h l w v n)

module _ (p : Plan) (at : ℕ → Task) (T : Tasks p at) (k c : ℕ) (K : Takes p at c k) where
  -- no started or waiting task is ahead of the one taken
  none_ahead : (j : ℕ) → j < p.tasks → Ahead p at j k → ⊥
  none_ahead j l a = clash a.before (K.first j l (a.owned ∙ K.owned) a.active)

  -- an active task may stand at the row taken
  pub takes_fits : (t : Task) → TaskLegal p k t → Crosses p at k t → Fits p at k t
  takes_fits t TL X =
      record {
        task = TL;
        binds_locals = λ i l g j m a. absurd (none_ahead j m a);
        binds_globals = λ e j m a. none_ahead j m a;
        bound_locals = λ a h i l m g o b. ⊎_elim
            (λ v. T.locals h i l m g k K.there (record { owned = o; before = b; active = v }))
            (λ u. u.below h i l (sym o ∙ K.owned) m g)
            K.may;
        bound_globals = λ a h l e o b. ⊎_elim
            (λ v. T.globals h l e k K.there (record { owned = o; before = b; active = v }))
            (λ u. u.calm h l (sym o ∙ K.owned) e)
            K.may;
        sections = X;
      }

-- u holds what t holds first and no more, and is active, waits or is inside a section only if t is
pub record Less (p : Plan) (t u : Task) : Type 0 where
  pub active : is_active u ≡ true → is_active t ≡ true
  pub engaged : Engaged p u → Engaged p t
  pub count : u.count ≤ t.count
  pub held : (i : ℕ) → i < u.count → held_at u i ≡ held_at t i
  pub inside : in_section p u ≡ true → in_section p t ≡ true
  pub last : in_section p u ≡ true → last_held u ≡ last_held t

-- such a one may stand at any row
pub less_fits : (p : Plan) (at : ℕ → Task) → Tasks p at → (k : ℕ) → k < p.tasks → (u : Task) → TaskLegal p k u → Less p (at k) u → Fits p at k u
less_fits p at T k h u TL S =
    record {
      task = TL;
      binds_locals = λ i l g j m a. rw (S.held i l) (T.locals k i h (omega (arith, S.count)) (rw (S.held i l) at g) j m a);
      binds_globals = λ e j m a. T.globals k h (S.engaged e) j m a;
      bound_locals = λ a j i l m g o b. T.locals j i l m g k h (record { owned = o; before = b; active = S.active a });
      bound_globals = λ a j l e o b. T.globals j l e k h (record { owned = o; before = b; active = S.active a });
      sections = λ i j l v n. rw (S.last i) (T.sections k j h l (S.inside i) v n);
    }

module _ (p : Plan) (t : Task) where
  -- a task readied
  pub readied_less : Less p t (readied t)
  readied_less =
      record {
        active = λ a. absurd (clash a (readied_active t));
        engaged = λ e. ⊎_elim (λ w. absurd (clash w (readied_waiting t))) (λ i. section_engaged p t (sym (readied_section t p) ∙ i)) (or_cases _ _ e);
        count = omega (arith, readied_count t);
        held = λ i l. readied_held t i;
        inside = λ i. sym (readied_section t p) ∙ i;
        last = λ i. readied_last t;
      }

  -- one that is idle now
  pub idle_less : Less p t idle_task
  idle_less =
      record {
        active = λ a. absurd (clash a idle_active);
        engaged = λ e. ⊎_elim (λ w. absurd (clash w idle_waiting)) (λ i. absurd (clash i (idle_section p))) (or_cases _ _ e);
        count = omega (arith, idle_count);
        held = λ i l. absurd (omega (arith, idle_count));
        inside = λ i. absurd (clash i (idle_section p));
        last = λ i. absurd (clash i (idle_section p));
      }

  -- one that gave back
  pub giving_back_less : in_section p (giving_back t) ≡ false → Less p t (giving_back t)
  giving_back_less out =
      record {
        active = λ a. sym (giving_back_active t) ∙ a;
        engaged = λ e. ⊎_elim (λ w. or_left _ _ (sym (giving_back_waiting t) ∙ w)) (λ i. absurd (clash i out)) (or_cases _ _ e);
        count = omega (arith, giving_back_count t);
        held = λ i l. giving_back_held t i (omega (arith, giving_back_count t));
        inside = λ i. absurd (clash i out);
        last = λ i. absurd (clash i out);
      }

-- where a task of c is taken, the others are outside sections
pub takes_others : (p : Plan) (s : State) → Tasks p (task_at s) → (k c : ℕ) → Takes p (task_at s) c k → OthersOutside p s k c
takes_others p s T k c K j l q n = fails _ (λ i. n (sym (takes_engaged p (task_at s) c k T K j l q (section_engaged p (task_at s j) i))))
