-- "Who is chosen": the task taken in a subsystem.
use mathlib.Core.Path.{◌≡◌, sym, ap, ◌∙◌}
use mathlib.Core.Logic.{◌≢◌, ◌⊎◌, inl, inr, ⊎_elim}
use mathlib.Core.Bool.{true, false, not, ◌&&◌}
use Prim.Native.Nat.{ℕ, ◌≤◌, ◌<◌}
use borrow.Author.Tests.{lt-ltb, le-ltb, eqb-true, eq-eqb, not-true}
use Rattle.below.proofs.Search.{all_at, any_false}
use Rattle.below.proofs.Tests.{clash, fails, conjuncts, and_of, or_left, or_cases, or_second}
use Rattle.plan.specs.declared.Plan.{Plan}
use Rattle.plan.specs.Limits.{no_row}
use Rattle.plan.specs.Plan.{owner, is_global, taken_before, foremost}
use Rattle.plan.specs.Ceiling.{local_ceiling}
use Rattle.plan.proofs.Order.{before_total, foremost_passes, foremost_none, foremost_first}
use Rattle.plan.proofs.Facts.{row_there}
use Rattle.state.specs.declared.Task.{Task}
use Rattle.state.specs.declared.State.{State}
use Rattle.state.specs.State.{task_at, is_ready, is_active, held_at}
use Rattle.legal.proofs.Parts.{Engaged, Tasks}
use Rattle.legal.proofs.Tasks.{engaged_active}
use Rattle.choice.specs.Choice.{or_no_row, below_locals, kept_from_ready, may_be_taken, taken}

-- task k is ready, no task of c waits or holds a global, and k is below every ceiling of a local resource held in c
pub record Unbarred (p : Plan) (at : ℕ → Task) (c k : ℕ) : Type 0 where
  pub ready : is_ready (at k) ≡ true
  pub calm : (j : ℕ) → j < p.tasks → owner p j ≡ c → Engaged p (at j) → ⊥
  pub below : (j i : ℕ) → j < p.tasks → owner p j ≡ c → i < (at j).count → is_global p (held_at (at j) i) ≡ false → taken_before p k (local_ceiling p (held_at (at j) i)) ≡ true

-- task k may be taken in c, and no started or waiting one is taken before it
pub record Takes (p : Plan) (at : ℕ → Task) (c k : ℕ) : Type 0 where
  pub there : k < p.tasks
  pub owned : owner p k ≡ c
  pub first : (j : ℕ) → j < p.tasks → owner p j ≡ c → is_active (at j) ≡ true → taken_before p j k ≡ false
  pub may : (is_active (at k) ≡ true) ⊎ Unbarred p at c k

-- a task that waits or holds a global is the one taken
pub takes_engaged : (p : Plan) (at : ℕ → Task) (c k : ℕ) → Tasks p at → Takes p at c k → (h : ℕ) → h < p.tasks → owner p h ≡ c → Engaged p (at h) → k ≡ h
takes_engaged p at c k T K h l o e =
    before_total p k h
    (⊎_elim (λ a. fails _ (λ b. T.globals h l e k K.there (record { owned = K.owned ∙ sym o; before = b; active = a })))
    (λ u. absurd (u.calm h l o e))
    K.may)
    (K.first h l o (engaged_active p h (at h) (T.task h l) e))

-- a row below n, or no row

row_is : (n k : ℕ) → k < n → or_no_row n k ≡ k
unfolding or_no_row
row_is n k h = rw (lt-ltb k n h, or_no_row)

row_none : (n k : ℕ) → n ≤ k → or_no_row n k ≡ no_row
unfolding or_no_row
row_none n k h = rw (le-ltb k n h, or_no_row)

module _ (p : Plan) (s : State) (c : ℕ) where
  -- what the test of a task says

  active_may : (k : ℕ) → owner p k ≡ c → is_active (task_at s k) ≡ true → may_be_taken p s c k ≡ true
  unfolding may_be_taken
  active_may k o a = and_of _ _ (eq-eqb (owner p k) c o) (or_left _ _ a)

  calm_facts : kept_from_ready p s c ≡ false → (j : ℕ) → j < p.tasks → owner p j ≡ c → Engaged p (task_at s j) → ⊥
  unfolding kept_from_ready
  calm_facts e j l o g = clash (and_of _ _ (eq-eqb _ _ o) g) (any_false p.tasks _ e j l)

  below_facts : (k : ℕ) → below_locals p s c k ≡ true → (j i : ℕ) → j < p.tasks → owner p j ≡ c → i < (task_at s j).count → is_global p (held_at (task_at s j) i) ≡ false
      → taken_before p k (local_ceiling p (held_at (task_at s j) i)) ≡ true
  unfolding below_locals
  below_facts k e j i l o m g =
      let v = or_second _ _ (all_at p.tasks _ e j l) (ap not (eq-eqb (owner p j) c o)) in
      or_second _ _ (all_at (task_at s j).count _ v i m) g

  unbarred : (k : ℕ) → (is_ready (task_at s k) && not (kept_from_ready p s c) && below_locals p s c k) ≡ true → Unbarred p (task_at s) c k
  unbarred k e = record { ready = search conjuncts; calm = calm_facts (not-true _ (search conjuncts)); below = below_facts k (search conjuncts) }

  may_facts : (k : ℕ) → may_be_taken p s c k ≡ true → (owner p k ≡ c) × ((is_active (task_at s k) ≡ true) ⊎ Unbarred p (task_at s) c k)
  unfolding may_be_taken
  may_facts k e = (eqb-true _ _ (search conjuncts), ⊎_elim inl (λ u. inr (unbarred k u)) (or_cases (is_active (task_at s k)) _ (search conjuncts)))

  -- the row found, or no row

  taken_there : foremost p (may_be_taken p s c) < p.tasks → taken p s c ≡ foremost p (may_be_taken p s c)
  unfolding taken
  taken_there h = row_is p.tasks _ h

  taken_absent : p.tasks ≤ foremost p (may_be_taken p s c) → taken p s c ≡ no_row
  unfolding taken
  taken_absent h = row_none p.tasks _ h

  takes_found : foremost p (may_be_taken p s c) < p.tasks → Takes p (task_at s) c (foremost p (may_be_taken p s c))
  takes_found h =
      let v = may_facts (foremost p (may_be_taken p s c)) (foremost_passes p (may_be_taken p s c) h) in
      record { there = h; owned = v.0; first = λ j l o a. foremost_first p (may_be_taken p s c) j l (active_may j o a); may = v.1 }

  -- no task is taken, and then no task of c is started or waiting; or one is
  pub taken_cases : ((taken p s c ≡ no_row) × ((j : ℕ) → j < p.tasks → owner p j ≡ c → is_active (task_at s j) ≡ false)) ⊎ Takes p (task_at s) c (taken p s c)
  taken_cases = go (row_there (foremost p (may_be_taken p s c)) p.tasks)
    where
      go : (foremost p (may_be_taken p s c) < p.tasks) ⊎ (p.tasks ≤ foremost p (may_be_taken p s c))
          → ((taken p s c ≡ no_row) × ((j : ℕ) → j < p.tasks → owner p j ≡ c → is_active (task_at s j) ≡ false)) ⊎ Takes p (task_at s) c (taken p s c)
      go (inl h) = inr (rw (taken_there h) (takes_found h))
      go (inr h) = inl (taken_absent h, λ j l o. fails _ (λ a. clash (active_may j o a) (foremost_none p (may_be_taken p s c) h j l)))

  -- a row taken is one of a task
  pub taken_takes : taken p s c ≢ no_row → Takes p (task_at s) c (taken p s c)
  taken_takes n = ⊎_elim (λ e. absurd (n e.0)) (λ t. t) taken_cases

  -- a task of c that waits or holds a global is the one taken
  pub taken_engaged : Tasks p (task_at s) → (h : ℕ) → h < p.tasks → owner p h ≡ c → Engaged p (task_at s h) → taken p s c ≡ h
  taken_engaged T h l o e =
      ⊎_elim (λ n. absurd (clash (engaged_active p h (task_at s h) (T.task h l) e) (n.1 h l o))) (λ K. takes_engaged p (task_at s) c (taken p s c) T K h l o e)
      taken_cases
