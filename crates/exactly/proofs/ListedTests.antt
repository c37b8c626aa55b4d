-- Each test of a line is true exactly when the line breaks its condition, over a plan that is tied to the lines above.
use Rattle.std.proofs.Common.{◌≡◌, refl, sym, ◌∙◌, Bool, true, false, not, ◌&&◌, ◌||◌, cond, true≢false, List, ℕ, ◌≤◌, ◌<◌, arith, leb, eqb, length, ltb-true, ltb-false, leb-true, leb-false, eqb-true, Option, Some, None}
use mathlib.Core.Bool.{false≢true, and-eq-true_iff}
use borrow.Author.Tests.{eqb-false, not-true, not-false}
use Rattle.below.specs.Below.{any}
use Rattle.below.proofs.Search.{any_true, any_false}
use Rattle.plan.specs.declared.Plan.{Plan}
use Rattle.plan.specs.Plan.{budget, owner, is_global, declares}
use Rattle.reader.specs.declared.Line.{Line}
use Rattle.reader.specs.declared.Line.TheVariants.{Subsystem, Task, Resource, Uses}
use Rattle.reader.specs.Line.{kind_of}
use Rattle.reader.specs.Conditions.{not_grammar, kind_order, too_many_rows, no_such_row, out_of_range, twice, two_subsystems, above_budget}
use Rattle.exactly.specs.Listed.{line_at, count_of, row_of, budget_said, owner_said, Global, OfGrammar, InOrder, RowsLeft, RowsThere, InRange, Once, FromOneSubsystem, WithinBudget}
use Rattle.exactly.proofs.ListedTied.{said_global, said_local, Stands, Tied}

-- a test that is true exactly when a condition is broken
pub record Decides (b : Bool) (A : Type 0) : Type 0 where
  pub met : b ≡ false → A
  pub broken : b ≡ true → A → ⊥

-- a condition that nothing breaks
free : Decides false Unit
free = record { met = λ e. tt; broken = λ e c. false≢true e }

-- the same condition in other words
decides_as : {b : Bool} {A B : Type 0} → (A → B) → (B → A) → Decides b A → Decides b B
decides_as f g d = record { met = λ e. f (d.met e); broken = λ e c. d.broken e (g c) }

-- tests that name what is wanted
decides_le : (a b : ℕ) → Decides (not (leb a b)) (a ≤ b)
decides_le a b = record {
  met = λ e. leb-true a b (not-false (leb a b) e);
  broken = λ e c. omega (arith, leb-false a b (not-true (leb a b) e));
}

decides_eq : (a b : ℕ) → Decides (not (eqb a b)) (a ≡ b)
decides_eq a b = record {
  met = λ e. eqb-true a b (not-false (eqb a b) e);
  broken = λ e c. eqb-false a b (not-true (eqb a b) e) c;
}

decides_and : (a b : Bool) {A B : Type 0} → Decides (not a) A → Decides (not b) B → Decides (not (a && b)) (A × B)
decides_and true b x y = record { met = λ e. (x.met refl, y.met e); broken = λ e c. y.broken e c.1 }
decides_and false b x y = record { met = λ e. absurd (true≢false e); broken = λ e c. x.broken refl c.0 }

-- 21
pub decides_grammar : (l : Option Line) → Decides (not_grammar l) (OfGrammar l)
unfolding not_grammar
decides_grammar None = record { met = λ e. absurd (true≢false e); broken = λ e c. c refl }
decides_grammar (Some x) = record { met = λ e q. absurd (cc); broken = λ e. absurd (false≢true e) }

module _ (above : List (Option Line)) (last : ℕ) (p : Plan) (w : Tied above last p) where
  -- 22
  pub decides_order : (l : Option Line) → Decides (kind_order last l) (InOrder above l)
  unfolding kind_order
  decides_order l = record {
    met = λ e i h. omega (arith, ltb-false (kind_of l) last e, w.latest.upper i h);
    broken = λ e c. omega (arith, ltb-true (kind_of l) last e, w.latest.least (kind_of l) c);
  }

  -- 23
  pub decides_rows_left : (l : Option Line) → Decides (too_many_rows p l) (RowsLeft above l)
  unfolding too_many_rows
  decides_rows_left (Some (Subsystem period budget)) = record {
    met = λ e. omega (arith, leb-false 8 p.subsystems e, w.tables.subsystems_are);
    broken = λ e c. omega (arith, leb-true 8 p.subsystems e, w.tables.subsystems_are);
  }
  decides_rows_left (Some (Task subsystem)) = record {
    met = λ e. omega (arith, leb-false 32 p.tasks e, w.tables.tasks_are);
    broken = λ e c. omega (arith, leb-true 32 p.tasks e, w.tables.tasks_are);
  }
  decides_rows_left (Some (Resource kind)) = record {
    met = λ e. omega (arith, leb-false 16 p.resources e, w.tables.resources_are);
    broken = λ e c. omega (arith, leb-true 16 p.resources e, w.tables.resources_are);
  }
  decides_rows_left (Some (Uses task resource length)) = free
  decides_rows_left None = free

  -- 24
  pub decides_rows_there : (l : Option Line) → Decides (no_such_row p l) (RowsThere above l)
  unfolding no_such_row
  decides_rows_there (Some (Subsystem period budget)) = free
  decides_rows_there (Some (Task subsystem)) = record {
    met = λ e. omega (arith, leb-false p.subsystems subsystem e, w.tables.subsystems_are);
    broken = λ e c. omega (arith, leb-true p.subsystems subsystem e, w.tables.subsystems_are);
  }
  decides_rows_there (Some (Resource kind)) = free
  decides_rows_there (Some (Uses task resource length)) = go (leb p.tasks task) refl (leb p.resources resource) refl
    where
      go : (a : Bool) → leb p.tasks task ≡ a → (b : Bool) → leb p.resources resource ≡ b → Decides (a || b) ((task < count_of 1 above) × (resource < count_of 2 above))
      go true e b q = record { met = λ f. absurd (true≢false f); broken = λ f c. omega (arith, leb-true p.tasks task e, w.tables.tasks_are, c) }
      go false e true q = record { met = λ f. absurd (true≢false f); broken = λ f c. omega (arith, leb-true p.resources resource q, w.tables.resources_are, c) }
      go false e false q = record {
        met = λ f. (omega (arith, leb-false p.tasks task e, w.tables.tasks_are), omega (arith, leb-false p.resources resource q, w.tables.resources_are));
        broken = λ f. absurd (false≢true f);
      }
  decides_rows_there None = free

  -- global by the plan is global by the lines
  pub global_met : (r : ℕ) → is_global p r ≡ true → Global above r
  unfolding is_global
  global_met r e = said_global (row_of 2 above r) (rw (w.tables.kinds_are r) at e)

  pub local_met : (r : ℕ) → is_global p r ≡ false → Global above r → ⊥
  unfolding is_global
  local_met r e = said_local (row_of 2 above r) (rw (w.tables.kinds_are r) at e)

  -- 25
  pub decides_range : (l : Option Line) → Decides (out_of_range p l) (InRange above l)
  unfolding out_of_range
  decides_range (Some (Subsystem period budget)) =
      decides_as
      {A = ((1 ≤ period × period ≤ 10000) × 1 ≤ budget) × budget ≤ period}
      (λ c. (c.0.0.0, c.0.0.1, c.0.1, c.1))
      (λ c. (((c.0, c.1), c.2), c.3))
      (decides_and (leb 1 period && leb period 10000 && leb 1 budget) (leb budget period)
      (decides_and (leb 1 period && leb period 10000) (leb 1 budget)
      (decides_and (leb 1 period) (leb period 10000) (decides_le 1 period) (decides_le period 10000)) (decides_le 1 budget))
      (decides_le budget period))
  decides_range (Some (Task subsystem)) = free
  decides_range (Some (Resource kind)) = free
  decides_range (Some (Uses task resource length)) = go (is_global p resource) refl
    where
      go : (b : Bool) → is_global p resource ≡ b → Decides (not (cond b (leb 1 length && leb length 10000) (eqb length 0)))
          ((Global above resource → (1 ≤ length) × (length ≤ 10000)) × ((Global above resource → ⊥) → length ≡ 0))
      go true e = decides_as
          (λ c. (λ g. c, λ n. absurd (n (global_met resource e))))
          (λ f. f.0 (global_met resource e))
          (decides_and (leb 1 length) (leb length 10000) (decides_le 1 length) (decides_le length 10000))
      go false e = decides_as (λ c. (λ g. absurd (local_met resource e g), λ n. c)) (λ f. f.1 (local_met resource e)) (decides_eq length 0)
  decides_range None = free

  -- the rows that a U line names are rows of the plan
  stands : (t r m : ℕ) → RowsThere above (Some (Uses t r m)) → (k : ℕ) → k < p.tasks → declares p k r ≡ true → Stands p k r
  stands t r m h k u d = record { task_there = u; resource_there = omega (arith, h, w.tables.resources_are); declared = d }

  -- 26
  pub decides_once : (l : Option Line) → RowsThere above l → Decides (twice p l) (Once above l)
  unfolding twice
  decides_once (Some (Subsystem period budget)) h = free
  decides_once (Some (Task subsystem)) h = free
  decides_once (Some (Resource kind)) h = free
  decides_once (Some (Uses task resource length)) h = record { met = met; broken = broken }
    where
      met : declares p task resource ≡ false → (i m : ℕ) → i < lib.ListN.length above → line_at above i ≡ Some (Uses task resource m) → ⊥
      met e i m u q =
          let s = w.pairs.uses task resource (record { at = i; there = u; size = m; line = q }) in
          true≢false (sym s.declared ∙ e)

      broken : declares p task resource ≡ true → ((i m : ℕ) → i < lib.ListN.length above → line_at above i ≡ Some (Uses task resource m) → ⊥) → ⊥
      broken e c =
          let u = w.pairs.used task resource (stands task resource length h task (omega (arith, h, w.tables.tasks_are)) e) in
          c u.at u.size u.there u.line
  decides_once None h = free

  -- 27
  pub decides_one_subsystem : (l : Option Line) → RowsThere above l → Decides (two_subsystems p l) (FromOneSubsystem above l)
  unfolding two_subsystems owner
  decides_one_subsystem (Some (Subsystem period budget)) h = free
  decides_one_subsystem (Some (Task subsystem)) h = free
  decides_one_subsystem (Some (Resource kind)) h = free
  decides_one_subsystem (Some (Uses task resource length)) h = go (is_global p resource) refl
    where
      -- a task of another subsystem that declares the resource
      other : ℕ → Bool
      other k = declares p k resource && not (eqb (owner p k) (owner p task))

      SameOwner : Type 0
      SameOwner = (i k m : ℕ) → i < lib.ListN.length above → line_at above i ≡ Some (Uses k resource m) → owner_said (row_of 1 above k) ≡ owner_said (row_of 1 above task)

      same : (k : ℕ) → Stands p k resource → other k ≡ false → owner p k ≡ owner p task
      same k s e = eqb-true (owner p k) (owner p task) (not-false (eqb (owner p k) (owner p task)) (rw s.declared at e))

      none : any p.tasks other ≡ false → SameOwner
      none e i k m u q =
          let s = w.pairs.uses k resource (record { at = i; there = u; size = m; line = q }) in
          sym (w.tables.owners_are k) ∙ same k s (any_false p.tasks other e k s.task_there) ∙ w.tables.owners_are task

      some : any p.tasks other ≡ true → SameOwner → ⊥
      some e c =
          let k = any_true p.tasks other e in
          let b = (and-eq-true_iff (declares p k.at resource) (not (eqb (owner p k.at) (owner p task)))).0 k.passes in
          let u = w.pairs.used k.at resource (stands task resource length h k.at k.there b.0) in
          eqb-false (owner p k.at) (owner p task) (not-true (eqb (owner p k.at) (owner p task)) b.1)
          (w.tables.owners_are k.at ∙ c u.at k.at u.size u.there u.line ∙ sym (w.tables.owners_are task))

      go : (b : Bool) → is_global p resource ≡ b → Decides (not b && any p.tasks other) ((Global above resource → ⊥) → SameOwner)
      go true e = record { met = λ q n. absurd (n (global_met resource e)); broken = λ q. absurd (false≢true q) }
      go false e = record { met = λ q n. none q; broken = λ q c. some q (c (local_met resource e)) }
  decides_one_subsystem None h = free

  -- 28
  pub decides_budget : (l : Option Line) → Decides (above_budget p l) (WithinBudget above l)
  unfolding above_budget budget owner
  decides_budget (Some (Subsystem period budget)) = free
  decides_budget (Some (Task subsystem)) = free
  decides_budget (Some (Resource kind)) = free
  decides_budget (Some (Uses task resource length)) = rw (w.tables.owners_are task, w.tables.budgets_are (owner_said (row_of 1 above task))) (record {
    met = λ e. ltb-false (budget_said (row_of 0 above (owner_said (row_of 1 above task)))) length e;
    broken = λ e c. omega (arith, ltb-true (budget_said (row_of 0 above (owner_said (row_of 1 above task)))) length e);
  })
  decides_budget None = free
