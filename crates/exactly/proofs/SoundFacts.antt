-- What holds of every plan that is read holds of an accepted plan, by its facts with names; and the entries of such a plan are small.
use Rattle.std.proofs.Common.{◌≡◌, refl, ◌⊎◌, inl, inr, ⊎_elim, Bool, true, false, List, ℕ, ◌/◌, ◌%◌, ◌≤◌, ◌<◌, div-add-mod', arith, eqb, length, get_or, eqb-true}
use lib.ListN.{get_or-eq_default}
use borrow.Author.Tests.{not-false}
use Rattle.plan.specs.declared.Plan.{Plan}
use Rattle.plan.specs.Plan.{period, budget, owner, is_global, place, length_of, declares}
use Rattle.plan.specs.Facts.{Accepted}
use Rattle.plan.proofs.Facts.{row_there}
use Rattle.exactly.proofs.PlanShape.{Shaped}
use Rattle.exactly.proofs.SoundPlan.{RowsFit, UsesFit, Sound}

-- past the end of a table there is 0
absent : (l : List ℕ) (m i : ℕ) → length l ≡ m → (i < m → get_or l i 0 ≡ 0) → get_or l i 0 ≡ 0
absent l m i e f = ⊎_elim f (λ h. get_or-eq_default l 0 (omega arith)) (row_there i m)

rows_of : {m : ℕ} {P : ℕ → ℕ → Type 0} {n : ℕ} {l : List ℕ}
    → length l ≡ m → n ≤ m → ((k : ℕ) → k < n → P k (get_or l k 0)) → ((k : ℕ) → k < m → n ≤ k → get_or l k 0 ≡ 0) → RowsFit m P n l
rows_of {m} {P} {n} {l} long few fits none = record { few = few; fits = fits; none = λ k h. absent l m k long (λ u. none k u h) }

module _ (p : Plan) (shape : Shaped p) (A : Accepted p) where
  no_length : (t r : ℕ) → r < 16 → (t < p.tasks → r < p.resources → ⊥) → length_of p t r ≡ 0
  unfolding length_of place
  no_length t r u n = ⊎_elim there beyond (row_there t p.tasks)
    where
      there : t < p.tasks → length_of p t r ≡ 0
      there h = ⊎_elim (λ l. absurd (n h l)) (A.no_length_resource t r (omega (arith, A.tasks_most)) u) (row_there r p.resources)

      beyond : p.tasks ≤ t → length_of p t r ≡ 0
      beyond h = absent p.lengths 512 (place t r) shape.lengths_long (λ l. A.no_length_task t r (omega arith) u h)

  uses_of : UsesFit p
  uses_of = record {
    fits = λ t r s. record {
      global = λ g. (
        A.global_length t r s.task_there s.resource_there s.declared g,
        A.global_longest t r s.task_there s.resource_there s.declared g,
        A.within_budget t r s.task_there s.resource_there s.declared g,
      );
      local = A.local_length t r s.task_there s.resource_there s.declared;
    };
    no_length = no_length;
    one_owner = λ r j k l a b.
        A.one_subsystem r j k a.resource_there a.task_there b.task_there l a.declared b.declared;
  }

  pub accepted_sound : Sound p
  unfolding period budget owner
  accepted_sound = record {
    shaped = shape;
    periods_fit = rows_of shape.periods_long A.subsystems_most (λ s h. (A.period_whole s h, A.period_most s h)) A.no_period;
    budgets_fit = rows_of shape.budgets_long A.subsystems_most (λ s h. (A.budget_whole s h, A.budget_most s h)) A.no_budget;
    owners_fit = rows_of shape.owners_long A.tasks_most A.owner_there A.no_owner;
    kinds_fit = rows_of shape.kinds_long A.resources_most A.kind_known A.no_kind;
    uses_fit = uses_of;
  }

-- the entries of a plan are numbers of 16 bits and of bytes
pub record Ranged (p : Plan) : Type 0 where
  pub subsystems_few : p.subsystems ≤ 8
  pub tasks_few : p.tasks ≤ 32
  pub resources_few : p.resources ≤ 16
  pub periods_small : (i : ℕ) → get_or p.periods i 0 < 65536
  pub budgets_small : (i : ℕ) → get_or p.budgets i 0 < 65536
  pub owners_small : (i : ℕ) → get_or p.owners i 0 < 256
  pub kinds_small : (i : ℕ) → get_or p.kinds i 0 < 256
  pub lengths_small : (i : ℕ) → get_or p.lengths i 0 < 65536

rows_small : (c : ℕ) {m : ℕ} {P : ℕ → ℕ → Type 0} {n : ℕ} {l : List ℕ} → RowsFit m P n l → 0 < c → ((k x : ℕ) → k < n → P k x → x < c)
    → (i : ℕ) → get_or l i 0 < c
rows_small c {n = n} w some small i = ⊎_elim (λ h. small i _ h (w.fits i h)) (λ h. omega (arith, w.none i h)) (row_there i n)

module _ (p : Plan) (w : Sound p) where
  -- a length is in range, or the mark of an undeclared pair, or 0
  length_small : (t r : ℕ) → r < 16 → length_of p t r < 65536
  unfolding declares
  length_small t r u = go (row_there t p.tasks) (row_there r p.resources) (declares p t r) refl (is_global p r) refl
    where
      go : (t < p.tasks) ⊎ (p.tasks ≤ t) → (r < p.resources) ⊎ (p.resources ≤ r) → (c : Bool) → declares p t r ≡ c → (g : Bool) → is_global p r ≡ g
          → length_of p t r < 65536
      go (inl h) (inl k) true d true e =
          omega (arith, (w.uses_fit.fits t r (record { task_there = h; resource_there = k; declared = d })).global e)
      go (inl h) (inl k) true d false e =
          omega (arith, (w.uses_fit.fits t r (record { task_there = h; resource_there = k; declared = d })).local e)
      go (inl h) (inl k) false d g e = omega (arith, eqb-true (length_of p t r) 65535 (not-false (eqb (length_of p t r) 65535) d))
      go (inl h) (inr k) c d g e = omega (arith, w.uses_fit.no_length t r u (λ a b. omega arith))
      go (inr h) k c d g e = omega (arith, w.uses_fit.no_length t r u (λ a b. omega arith))

  lengths_at_lem : (i : ℕ) → get_or p.lengths i 0 < 65536
  unfolding length_of place
  lengths_at_lem i = rw (div-add-mod' i 16) at (length_small (i / 16) (i % 16) (omega arith))

  pub sound_ranged : Ranged p
  sound_ranged = record {
    subsystems_few = w.periods_fit.few;
    tasks_few = w.owners_fit.few;
    resources_few = w.kinds_fit.few;
    periods_small = rows_small 65536 w.periods_fit (omega arith) (λ k x h f. omega arith);
    budgets_small = rows_small 65536 w.budgets_fit (omega arith) (λ k x h f. omega (arith, w.periods_fit.fits k h));
    owners_small = rows_small 256 w.owners_fit (omega arith) (λ k x h f. omega (arith, w.periods_fit.few));
    kinds_small = rows_small 256 w.kinds_fit (omega arith) (λ k x h f. omega arith);
    lengths_small = lengths_at_lem;
  }
