-- The facts of an accepted plan hold of the plan read so far: kept by every line that meets its conditions.
use Rattle.std.proofs.Common.{◌≡◌, refl, sym, ◌∙◌, ◌⊎◌, inl, inr, ⊎_elim, true, false, true≢false, List, ℕ, ◌+◌, ◌≤◌, ◌<◌, not-suc-le-zero, arith, length, get_or, set, replicate, get_or-set_same, get_or-set_other, Option, Some, None}
use Rattle.below.proofs.Search.{last_or_before}
use Rattle.plan.specs.declared.Plan.{Plan}
use Rattle.plan.specs.Plan.{budget, owner, is_global, place, length_of, declares}
use Rattle.reader.specs.declared.Line.{Line}
use Rattle.reader.specs.declared.Line.TheVariants.{Subsystem, Task, Resource, Uses}
use Rattle.reader.specs.Reading.{empty_plan, with_subsystem, with_task, with_resource, with_use, with_line}
use Rattle.exactly.specs.Listed.{row_of, owner_said, Condition}
use Rattle.exactly.proofs.PlanShape.{zeros, shaped_empty, shaped_line, place_task, place_resource, declares_not, declares_same, resource_own, resource_else, use_own, use_else, same_or_apart}
use Rattle.exactly.proofs.ListedRows.{no_resource_yet}
use Rattle.exactly.proofs.ListedTied.{kind_said, Stands, Tied}
use Rattle.exactly.proofs.ListedTests.{global_met, local_met}
use Rattle.exactly.proofs.SoundPlan.{RowsFit, PeriodFits, BudgetFits, OwnerFits, KindFits, LengthFits, UsesFit, Sound}

-- the tables

rows_empty : (m : ℕ) (P : ℕ → ℕ → Type 0) → RowsFit m P 0 (replicate m 0)
rows_empty m P = record { few = omega arith; fits = λ k h. absurd (not-suc-le-zero h); none = λ k h. zeros m k }

module _ {m : ℕ} {P : ℕ → ℕ → Type 0} {n : ℕ} {l : List ℕ} (w : RowsFit m P n l) where
  -- with one more row
  rows_more : (v : ℕ) → length l ≡ m → n < m → P n v → RowsFit m P (n + 1) (set l n v)
  rows_more v long room new = record {
    few = omega arith;
    fits = λ k h. ⊎_elim (here k) (before k) (last_or_before (omega arith));
    none = λ k h. get_or-set_other l n k v 0 (omega arith) ∙ w.none k (omega arith);
  }
    where
      here : (k : ℕ) → k ≡ n → P k (get_or (set l n v) k 0)
      here k q = rw (q, get_or-set_same l n v 0 (omega arith)) new

      before : (k : ℕ) → k < n → P k (get_or (set l n v) k 0)
      before k h = rw (get_or-set_other l n k v 0 (omega arith)) (w.fits k h)

  -- where what fits also fits otherwise
  rows_as : (Q : ℕ → ℕ → Type 0) → ((k x : ℕ) → k < n → P k x → Q k x) → RowsFit m Q n l
  rows_as Q f = record { few = w.few; fits = λ k h. f k (get_or l k 0) h (w.fits k h); none = w.none }

-- one more budget, beside one more period
budgets_more : (n : ℕ) (ps bs : List ℕ) (a b : ℕ) → RowsFit 8 (BudgetFits ps) n bs → length bs ≡ 8 → n < 8 → BudgetFits (set ps n a) n b
    → RowsFit 8 (BudgetFits (set ps n a)) (n + 1) (set bs n b)
budgets_more n ps bs a b w long room new =
    rows_more (rows_as w (BudgetFits (set ps n a)) (λ k x h f. (f.0, rw (get_or-set_other ps n k a 0 (omega arith)) f.1))) b long room new

-- the pairs

-- a length that fits in one plan fits in another with the same numbers
fits_as : (p q : Plan) (t r : ℕ) → length_of q t r ≡ length_of p t r → is_global q r ≡ is_global p r → budget q (owner q t) ≡ budget p (owner p t)
    → LengthFits p t r → LengthFits q t r
fits_as p q t r l k b f = record { global = λ g. rw (l, b) (f.global (sym k ∙ g)); local = λ g. rw l (f.local (sym k ∙ g)) }

module _ (p : Plan) (w : Sound p) where
  -- the budget of a task's subsystem is an old one
  uses_subsystem : (a b : ℕ) → UsesFit (with_subsystem p a b)
  unfolding with_subsystem budget owner is_global length_of declares
  uses_subsystem a b = record {
    fits = fits;
    no_length = w.uses_fit.no_length;
    one_owner = λ r j k l x y. w.uses_fit.one_owner r j k l (old j r x) (old k r y);
  }
    where
      old : (t r : ℕ) → Stands (with_subsystem p a b) t r → Stands p t r
      old t r s = record { task_there = s.task_there; resource_there = s.resource_there; declared = s.declared }

      same : (t : ℕ) → t < p.tasks → get_or (set p.budgets p.subsystems b) (owner p t) 0 ≡ get_or p.budgets (owner p t) 0
      same t u = get_or-set_other p.budgets p.subsystems (owner p t) b 0 (omega (arith, w.owners_fit.fits t u))

      fits : (t r : ℕ) → Stands (with_subsystem p a b) t r → LengthFits (with_subsystem p a b) t r
      fits t r s = record {
        global = λ g. rw (same t s.task_there) ((w.uses_fit.fits t r (old t r s)).global g);
        local = (w.uses_fit.fits t r (old t r s)).local;
      }

  -- no resource is there yet
  uses_task : (s : ℕ) → p.resources ≡ 0 → UsesFit (with_task p s)
  unfolding with_task length_of
  uses_task s e = record {
    fits = λ t r x. absurd (omega (arith, e, x.resource_there));
    no_length = λ t r u n. w.uses_fit.no_length t r u (λ a b. omega arith);
    one_owner = λ r j k l x y. absurd (omega (arith, e, x.resource_there));
  }

  -- a new resource is undeclared, and the old ones are what they were
  uses_resource_lem : (k : ℕ) → p.resources < 16 → UsesFit (with_resource p k)
  unfolding with_resource budget owner is_global
  uses_resource_lem k room = record {
    fits = λ t r s. fits_as p q t r (same_length t r (old t r s)) (same_kind r (old t r s).resource_there) refl (w.uses_fit.fits t r (old t r s));
    no_length = λ t r u n. resource_else p k t r room u (λ a e. n a (omega arith)) ∙ w.uses_fit.no_length t r u (λ a b. n a (omega arith));
    one_owner = λ r i j l x y. w.uses_fit.one_owner r i j (sym (same_kind r (old i r x).resource_there) ∙ l) (old i r x) (old j r y);
  }
    where
      q : Plan
      q = with_resource p k

      same_kind : (r : ℕ) → r < p.resources → is_global q r ≡ is_global p r
      same_kind r u = rw (get_or-set_other p.kinds p.resources r k 0 (omega arith))

      same_length : (t r : ℕ) → Stands p t r → length_of q t r ≡ length_of p t r
      same_length t r s = resource_else p k t r room (omega (arith, s.resource_there)) (λ a e. omega (arith, s.resource_there))

      own : (t r : ℕ) → t < p.tasks → r ≡ p.resources → declares q t r ≡ false
      own t r u e = rw e (declares_not q t p.resources (resource_own p k t w.shaped w.owners_fit.few room u))

      old : (t r : ℕ) → Stands q t r → Stands p t r
      old t r s = ⊎_elim (λ e. absurd (true≢false (sym s.declared ∙ own t r s.task_there e))) kept (last_or_before (omega (arith, s.resource_there)))
        where
          kept : r < p.resources → Stands p t r
          kept v = record {
            task_there = s.task_there;
            resource_there = v;
            declared = sym (declares_same q p t r (resource_else p k t r room (omega arith) (λ a e. omega arith))) ∙ s.declared;
          }

-- what a U line that meets its conditions says of the plan read so far
record UseMeets (p : Plan) (t r m : ℕ) : Type 0 where
  task_there : t < p.tasks
  resource_there : r < p.resources
  global : is_global p r ≡ true → (1 ≤ m) × (m ≤ 10000)
  local : is_global p r ≡ false → m ≡ 0
  within : m ≤ budget p (owner p t)
  one_owner : is_global p r ≡ false → (k : ℕ) → Stands p k r → owner p k ≡ owner p t

use_meets : (above : List (Option Line)) (last : ℕ) (p : Plan) (t r m : ℕ) → Tied above last p → ((c : ℕ) → Condition c above (Some (Uses t r m))) → UseMeets p t r m
unfolding budget owner
use_meets above last p t r m w c = record {
  task_there = omega (arith, c 3, w.tables.tasks_are);
  resource_there = omega (arith, c 3, w.tables.resources_are);
  global = λ g. (c 4).0 (global_met above last p w r g);
  local = λ g. (c 4).1 (local_met above last p w r g);
  within = rw (w.tables.owners_are t, w.tables.budgets_are (owner_said (row_of 1 above t))) (c 7);
  one_owner = one_owner;
}
  where
    one_owner : is_global p r ≡ false → (k : ℕ) → Stands p k r → owner p k ≡ owner p t
    one_owner g k s =
        let u = w.pairs.used k r s in
        w.tables.owners_are k ∙ c 6 (local_met above last p w r g) u.at k u.size u.there u.line ∙ sym (w.tables.owners_are t)

-- the new pair is in range, and the others are what they were
uses_use : (p : Plan) (t r m : ℕ) → Sound p → UseMeets p t r m → UsesFit (with_use p t r m)
unfolding with_use budget owner is_global
uses_use p t r m w c = record { fits = fits; no_length = no_length; one_owner = one_owner }
  where
    q : Plan
    q = with_use p t r m

    new_length : length_of q t r ≡ m
    new_length = use_own p t r m w.shaped (omega (arith, c.task_there, w.owners_fit.few)) (omega (arith, c.resource_there, w.kinds_fit.few))

    -- a pair that is there now is the new one or was there before
    Old : ℕ → ℕ → Type 0
    Old u v = (place u v ≡ place t r → ⊥) × Stands p u v

    new_or_old : (u v : ℕ) → Stands q u v → ((u ≡ t) × (v ≡ r)) ⊎ Old u v
    new_or_old u v s = ⊎_elim inl (λ d. inr (d, kept d)) (same_or_apart u v t r (omega (arith, s.resource_there, w.kinds_fit.few)) (omega (arith, c.resource_there, w.kinds_fit.few)))
      where
        kept : (place u v ≡ place t r → ⊥) → Stands p u v
        kept d = record {
          task_there = s.task_there;
          resource_there = s.resource_there;
          declared = sym (declares_same q p u v (use_else p t r m u v d)) ∙ s.declared;
        }

    fits : (u v : ℕ) → Stands q u v → LengthFits q u v
    fits u v s = ⊎_elim new old (new_or_old u v s)
      where
        old : Old u v → LengthFits q u v
        old d = fits_as p q u v (use_else p t r m u v d.0) refl refl (w.uses_fit.fits u v d.1)

        new : (u ≡ t) × (v ≡ r) → LengthFits q u v
        new d = rw (d.0, d.1) (record {
          global = λ g. rw new_length ((c.global g).0, (c.global g).1, c.within);
          local = λ g. rw new_length (c.local g);
        })

    no_length : (u v : ℕ) → v < 16 → (u < p.tasks → v < p.resources → ⊥) → length_of q u v ≡ 0
    no_length u v b n = use_else p t r m u v apart ∙ w.uses_fit.no_length u v b n
      where
        apart : place u v ≡ place t r → ⊥
        apart e =
            let room : r < 16 = omega (arith, c.resource_there, w.kinds_fit.few) in
            n (omega (arith, place_task u v t r b room e, c.task_there)) (omega (arith, place_resource u v t r b room e, c.resource_there))

    one_owner : (v j k : ℕ) → is_global p v ≡ false → Stands q j v → Stands q k v → owner p j ≡ owner p k
    one_owner v j k l x y = go (new_or_old j v x) (new_or_old k v y)
      where
        -- an old pair with the resource of the new one
        other : (i : ℕ) → v ≡ r → Stands p i v → owner p i ≡ owner p t
        other i e s = c.one_owner (rw e at l) i (rw e at s)

        go : ((j ≡ t) × (v ≡ r)) ⊎ Old j v → ((k ≡ t) × (v ≡ r)) ⊎ Old k v → owner p j ≡ owner p k
        go (inl a) (inl b) = rw (a.0, b.0)
        go (inl a) (inr b) = rw a.0 (sym (other k a.1 b.1))
        go (inr a) (inl b) = rw b.0 (other j b.1 a.1)
        go (inr a) (inr b) = w.uses_fit.one_owner v j k l a.1 b.1

-- the whole of it

pub sound_empty : Sound empty_plan
unfolding empty_plan length_of
sound_empty = record {
  shaped = shaped_empty;
  periods_fit = rows_empty 8 PeriodFits;
  budgets_fit = rows_empty 8 (BudgetFits (replicate 8 0));
  owners_fit = rows_empty 32 (OwnerFits 0);
  kinds_fit = rows_empty 16 KindFits;
  uses_fit = record {
    fits = λ t r s. absurd (not-suc-le-zero s.task_there);
    no_length = λ t r u n. zeros 512 (place t r);
    one_owner = λ r j k l x y. absurd (not-suc-le-zero x.task_there);
  };
}

pub sound_line : (above : List (Option Line)) (last : ℕ) (p : Plan) (l : Option Line) → Tied above last p → ((c : ℕ) → Condition c above l)
    → kind_said l ≤ 1 → Sound p → Sound (with_line p l)
unfolding kind_said with_line with_subsystem with_task with_resource with_use
sound_line above last p (Some (Subsystem a b)) t c k w =
    let room : p.subsystems < 8 = omega (arith, c 2, t.tables.subsystems_are) in
    record {
      shaped = shaped_line p (Some (Subsystem a b)) w.shaped;
      periods_fit = rows_more w.periods_fit a w.shaped.periods_long room ((c 4).0, (c 4).1);
      budgets_fit =
          budgets_more p.subsystems p.periods p.budgets a b w.budgets_fit w.shaped.budgets_long room
          ((c 4).2, rw (get_or-set_same p.periods p.subsystems a 0 (omega (arith, w.shaped.periods_long))) (c 4).3);
      owners_fit = rows_as w.owners_fit (OwnerFits (p.subsystems + 1)) (λ i x h f. omega arith);
      kinds_fit = w.kinds_fit;
      uses_fit = uses_subsystem p w a b;
    }
sound_line above last p (Some (Task s)) t c k w = record {
  shaped = shaped_line p (Some (Task s)) w.shaped;
  periods_fit = w.periods_fit;
  budgets_fit = w.budgets_fit;
  owners_fit =
      rows_more w.owners_fit s w.shaped.owners_long (omega (arith, c 2, t.tables.tasks_are)) (omega (arith, c 3, t.tables.subsystems_are));
  kinds_fit = w.kinds_fit;
  uses_fit = uses_task p w s (t.tables.resources_are ∙ no_resource_yet above s (c 1));
}
sound_line above last p (Some (Resource i)) t c k w =
    let room : p.resources < 16 = omega (arith, c 2, t.tables.resources_are) in
    record {
      shaped = shaped_line p (Some (Resource i)) w.shaped;
      periods_fit = w.periods_fit;
      budgets_fit = w.budgets_fit;
      owners_fit = w.owners_fit;
      kinds_fit = rows_more w.kinds_fit i w.shaped.kinds_long room k;
      uses_fit = uses_resource_lem p w i room;
    }
sound_line above last p (Some (Uses i r m)) t c k w = record {
  shaped = shaped_line p (Some (Uses i r m)) w.shaped;
  periods_fit = w.periods_fit;
  budgets_fit = w.budgets_fit;
  owners_fit = w.owners_fit;
  kinds_fit = w.kinds_fit;
  uses_fit = uses_use p i r m w (use_meets above last p i r m t c);
}
sound_line above last p None t c k w = w
