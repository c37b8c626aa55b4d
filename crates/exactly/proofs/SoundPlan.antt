-- The plan read so far in plain facts: what holds of its subsystems, tasks, kinds and pairs. With a subsystem and no negative margin it is accepted.
use Rattle.std.proofs.Common.{◌≡◌, true, false, List, ℕ, ◌≤◌, ◌<◌, arith, get_or}
use Rattle.plan.specs.declared.Plan.{Plan}
use Rattle.plan.specs.Plan.{period, budget, owner, is_global, length_of, declares}
use Rattle.plan.specs.Admission.{demand}
use Rattle.plan.specs.Accepted.{accepted}
use Rattle.plan.specs.Facts.{Accepted}
use Rattle.plan.proofs.Facts.{facts_accepted}
use Rattle.exactly.proofs.PlanShape.{Shaped}
use Rattle.exactly.proofs.ListedTied.{Stands}

-- the first n entries of a table of m are such, and the others are 0
pub record RowsFit (m : ℕ) (P : ℕ → ℕ → Type 0) (n : ℕ) (l : List ℕ) : Type 0 where
  pub few : n ≤ m
  pub fits : (k : ℕ) → k < n → P k (get_or l k 0)
  pub none : (k : ℕ) → n ≤ k → get_or l k 0 ≡ 0

-- a period, a budget beside the periods, an owner and a kind
abbrev pub PeriodFits : ℕ → ℕ → Type 0
PeriodFits s a = (1 ≤ a) × (a ≤ 10000)

abbrev pub BudgetFits : List ℕ → ℕ → ℕ → Type 0
BudgetFits periods s b = (1 ≤ b) × (b ≤ get_or periods s 0)

abbrev pub OwnerFits : ℕ → ℕ → ℕ → Type 0
OwnerFits subsystems t s = s < subsystems

abbrev pub KindFits : ℕ → ℕ → Type 0
KindFits r k = k ≤ 1

-- the length of a declared pair is in range
pub record LengthFits (p : Plan) (t r : ℕ) : Type 0 where
  pub global : is_global p r ≡ true → (1 ≤ length_of p t r) × (length_of p t r ≤ 10000) × (length_of p t r ≤ budget p (owner p t))
  pub local : is_global p r ≡ false → length_of p t r ≡ 0

-- the pairs: their lengths, those of rows that are not there, and a local resource's one subsystem
pub record UsesFit (p : Plan) : Type 0 where
  pub fits : (t r : ℕ) → Stands p t r → LengthFits p t r
  pub no_length : (t r : ℕ) → r < 16 → (t < p.tasks → r < p.resources → ⊥) → length_of p t r ≡ 0
  pub one_owner : (r j k : ℕ) → is_global p r ≡ false → Stands p j r → Stands p k r → owner p j ≡ owner p k

pub record Sound (p : Plan) : Type 0 where
  pub shaped : Shaped p
  pub periods_fit : RowsFit 8 PeriodFits p.subsystems p.periods
  pub budgets_fit : RowsFit 8 (BudgetFits p.periods) p.subsystems p.budgets
  pub owners_fit : RowsFit 32 (OwnerFits p.subsystems) p.tasks p.owners
  pub kinds_fit : RowsFit 16 KindFits p.resources p.kinds
  pub uses_fit : UsesFit p

-- the facts of an accepted plan, where a subsystem is there and no margin is negative
sound_facts : (p : Plan) → Sound p → 1 ≤ p.subsystems → ((s : ℕ) → s < p.subsystems → demand p s ≤ period p s) → Accepted p
unfolding period budget owner
sound_facts p w some enough =
    record {
      some_subsystem = some;
      subsystems_most = w.periods_fit.few;
      tasks_most = w.owners_fit.few;
      resources_most = w.kinds_fit.few;
      period_whole = λ s h. (w.periods_fit.fits s h).0;
      period_most = λ s h. (w.periods_fit.fits s h).1;
      budget_whole = λ s h. (w.budgets_fit.fits s h).0;
      budget_most = λ s h. (w.budgets_fit.fits s h).1;
      owner_there = w.owners_fit.fits;
      kind_known = w.kinds_fit.fits;
      global_length = λ t r h l d g. ((length t r h l d).global g).0;
      global_longest = λ t r h l d g. ((length t r h l d).global g).1;
      within_budget = λ t r h l d g. ((length t r h l d).global g).2;
      local_length = λ t r h l d. (length t r h l d).local;
      one_subsystem = λ r j k l a b g d c. w.uses_fit.one_owner r j k g (stands j r a l d) (stands k r b l c);
      no_period = λ s l. w.periods_fit.none s;
      no_budget = λ s l. w.budgets_fit.none s;
      no_owner = λ t l. w.owners_fit.none t;
      no_kind = λ r l. w.kinds_fit.none r;
      no_length_task = λ t r a b h. w.uses_fit.no_length t r b (λ u v. omega arith);
      no_length_resource = λ t r a b h. w.uses_fit.no_length t r b (λ u v. omega arith);
      fits = enough;
    }
  where
    stands : (t r : ℕ) → t < p.tasks → r < p.resources → declares p t r ≡ true → Stands p t r
    stands t r h l d = record { task_there = h; resource_there = l; declared = d }

    length : (t r : ℕ) → t < p.tasks → r < p.resources → declares p t r ≡ true → LengthFits p t r
    length t r h l d = w.uses_fit.fits t r (stands t r h l d)

pub sound_accepted : (p : Plan) → Sound p → 1 ≤ p.subsystems → ((s : ℕ) → s < p.subsystems → demand p s ≤ period p s) → accepted p ≡ true
sound_accepted p w some enough = facts_accepted p (sound_facts p w some enough)
