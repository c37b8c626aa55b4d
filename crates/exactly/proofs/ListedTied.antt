-- The plan read so far against the lines above: its counts and tables are what the lines say, its declared pairs are the U lines.
use Rattle.std.proofs.Common.{◌≡◌, refl, sym, ap, ◌∙◌, ⊎_elim, Bool, true, false, List, [], ◌∷◌, ◌++◌, ℕ, ◌≤◌, ◌<◌, not-suc-le-zero, arith, eqb, length, get_or, set, length-append, get_or-set_same, get_or-set_other, eqb-true, Option, Some, None}
use mathlib.Core.Bool.{false≢true}
use borrow.Author.Tests.{eqb-false}
use Rattle.below.proofs.Search.{last_or_before}
use Rattle.plan.specs.declared.Plan.{Plan}
use Rattle.plan.specs.Plan.{declares}
use Rattle.reader.specs.declared.Line.{Line}
use Rattle.reader.specs.declared.Line.TheVariants.{Subsystem, Task, Resource, Uses}
use Rattle.reader.specs.Line.{kind_of}
use Rattle.reader.specs.Reading.{empty_plan, with_subsystem, with_task, with_resource, with_use, with_line}
use Rattle.exactly.specs.Listed.{line_at, count_of, row_of, budget_said, owner_said, InOrder, InRange}
use Rattle.exactly.proofs.PlanShape.{zeros, Shaped, shaped_empty, shaped_line}
use Rattle.exactly.proofs.ListedRows.{count_of_same, count_of_other, row_of_new, row_of_kept, line_at_old, line_at_new}

-- what an R line says
unfoldable pub kind_said : Option Line → ℕ
kind_said (Some (Subsystem period budget)) = 0
kind_said (Some (Task subsystem)) = 0
kind_said (Some (Resource kind)) = kind
kind_said (Some (Uses task resource length)) = 0
kind_said None = 0

-- it says global, or something else
pub said_global : (l : Option Line) → eqb (kind_said l) 1 ≡ true → l ≡ Some (Resource 1)
unfolding kind_said
said_global (Some (Subsystem period budget)) e = absurd (false≢true e)
said_global (Some (Task subsystem)) e = absurd (false≢true e)
said_global (Some (Resource kind)) e = ap (λ k. Some (Resource k)) (eqb-true kind 1 e)
said_global (Some (Uses task resource length)) e = absurd (false≢true e)
said_global None e = absurd (false≢true e)

pub said_local : (l : Option Line) → eqb (kind_said l) 1 ≡ false → l ≡ Some (Resource 1) → ⊥
unfolding kind_said
said_local l e q = eqb-false (kind_said l) 1 e (ap kind_said q)

-- a length in range is far from the mark of an undeclared pair
pub use_short : (above : List (Option Line)) (t r m : ℕ) → InRange above (Some (Uses t r m)) → m < 65535
use_short above t r m c = go (eqb (kind_said (row_of 2 above r)) 1) refl
  where
    go : (b : Bool) → eqb (kind_said (row_of 2 above r)) 1 ≡ b → m < 65535
    go true e = omega (arith, c.0 (said_global (row_of 2 above r) e))
    go false e = omega (arith, c.1 (said_local (row_of 2 above r) e))

-- a table holds what the lines of a kind say, row by row, and 0 past the last
abbrev pub Entries : ℕ → (Option Line → ℕ) → List (Option Line) → List ℕ → Type 0
Entries kind said above l = (n : ℕ) → get_or l n 0 ≡ said (row_of kind above n)

-- last is the latest kind above, or 0
pub record Latest (above : List (Option Line)) (last : ℕ) : Type 0 where
  pub upper : (i : ℕ) → i < length above → kind_of (line_at above i) ≤ last
  pub least : (k : ℕ) → ((i : ℕ) → i < length above → kind_of (line_at above i) ≤ k) → last ≤ k

-- counts and tables
pub record Tables (above : List (Option Line)) (p : Plan) : Type 0 where
  pub shaped : Shaped p
  pub subsystems_are : p.subsystems ≡ count_of 0 above
  pub tasks_are : p.tasks ≡ count_of 1 above
  pub resources_are : p.resources ≡ count_of 2 above
  pub tasks_few : p.tasks ≤ 32
  pub resources_few : p.resources ≤ 16
  pub budgets_are : Entries 0 budget_said above p.budgets
  pub owners_are : Entries 1 owner_said above p.owners
  pub kinds_are : Entries 2 kind_said above p.kinds

-- a U line above of a pair
pub record UsedAt (above : List (Option Line)) (t r : ℕ) : Type 0 where
  pub at : ℕ
  pub there : at < length above
  pub size : ℕ
  pub line : line_at above at ≡ Some (Uses t r size)

-- a pair of rows that are there and declared
pub record Stands (p : Plan) (t r : ℕ) : Type 0 where
  pub task_there : t < p.tasks
  pub resource_there : r < p.resources
  pub declared : declares p t r ≡ true

-- the declared pairs of rows that are there
pub record Pairs (above : List (Option Line)) (p : Plan) : Type 0 where
  pub uses : (t r : ℕ) → UsedAt above t r → Stands p t r
  pub used : (t r : ℕ) → Stands p t r → UsedAt above t r

pub record Tied (above : List (Option Line)) (last : ℕ) (p : Plan) : Type 0 where
  pub latest : Latest above last
  pub tables : Tables above p
  pub pairs : Pairs above p

-- the order of the kinds

pub latest_empty : Latest [] 0
latest_empty = record { upper = λ i h. absurd (not-suc-le-zero h); least = λ k f. omega arith }

pub latest_line : (above : List (Option Line)) (l : Option Line) → InOrder above l → Latest (above ++ (l ∷ [])) (kind_of l)
latest_line above l o = record { upper = upper; least = λ k f. rw (line_at_new above l) at (f (length above) last) }
  where
    last : length above < length (above ++ (l ∷ []))
    last = rw (length-append above (l ∷ [])) (omega arith)

    here : (i : ℕ) → i ≡ length above → kind_of (line_at (above ++ (l ∷ [])) i) ≤ kind_of l
    here i q = rw (q, line_at_new above l) (omega arith)

    before : (i : ℕ) → i < length above → kind_of (line_at (above ++ (l ∷ [])) i) ≤ kind_of l
    before i v = rw (line_at_old above l i v) (o i v)

    upper : (i : ℕ) → i < length (above ++ (l ∷ [])) → kind_of (line_at (above ++ (l ∷ [])) i) ≤ kind_of l
    upper i h = ⊎_elim (here i) (before i) (last_or_before (omega (arith, h, length-append above (l ∷ []))))

-- the tables

module _ (kind : ℕ) (said : Option Line → ℕ) (above : List (Option Line)) (list : List ℕ) (l : Option Line) (h : Entries kind said above list) where
  -- a line of the kind is entered at the row that it makes
  entries_new : (i : ℕ) → kind_of l ≡ kind → i ≡ count_of kind above → i < length list → Entries kind said (above ++ (l ∷ [])) (set list i (said l))
  entries_new i e c u n = go (eqb n i) refl
    where
      go : (b : Bool) → eqb n i ≡ b → get_or (set list i (said l)) n 0 ≡ said (row_of kind (above ++ (l ∷ [])) n)
      go true q =
          rw (eqb-true n i q, get_or-set_same list i (said l) 0 u, c, row_of_new kind above l e)
      go false q =
          rw (
            get_or-set_other list i n (said l) 0 (eqb-false n i q),
            row_of_kept kind above l n (λ w v. eqb-false n i q (v ∙ sym c)),
          )
          (h n)

  -- and a line of another kind changes nothing
  entries_other : (kind_of l ≡ kind → ⊥) → Entries kind said (above ++ (l ∷ [])) list
  entries_other o n = rw (row_of_kept kind above l n (λ e c. o e)) (h n)

pub tables_empty : Tables [] empty_plan
unfolding empty_plan count_of row_of budget_said owner_said kind_said
tables_empty = record {
  shaped = shaped_empty;
  subsystems_are = refl;
  tasks_are = refl;
  resources_are = refl;
  tasks_few = omega arith;
  resources_few = omega arith;
  budgets_are = zeros 8;
  owners_are = zeros 32;
  kinds_are = zeros 16;
}

module _ (above : List (Option Line)) (p : Plan) (w : Tables above p) where
  pub tables_subsystem : (a b : ℕ) → count_of 0 above < 8 → Tables (above ++ (Some (Subsystem a b) ∷ [])) (with_line p (Some (Subsystem a b)))
  unfolding with_line with_subsystem kind_of budget_said
  tables_subsystem a b u = record {
    shaped = shaped_line p (Some (Subsystem a b)) w.shaped;
    subsystems_are = rw (count_of_same 0 above l refl) (omega (arith, w.subsystems_are));
    tasks_are = rw (count_of_other 1 above l (omega arith)) w.tasks_are;
    resources_are = rw (count_of_other 2 above l (omega arith)) w.resources_are;
    tasks_few = w.tasks_few;
    resources_few = w.resources_few;
    budgets_are =
        entries_new 0 budget_said above p.budgets l w.budgets_are p.subsystems refl w.subsystems_are
        (omega (arith, w.subsystems_are, w.shaped.budgets_long));
    owners_are = entries_other 1 owner_said above p.owners l w.owners_are (omega arith);
    kinds_are = entries_other 2 kind_said above p.kinds l w.kinds_are (omega arith);
  }
    where
      l : Option Line
      l = Some (Subsystem a b)

  pub tables_task : (s : ℕ) → count_of 1 above < 32 → Tables (above ++ (Some (Task s) ∷ [])) (with_line p (Some (Task s)))
  unfolding with_line with_task kind_of owner_said
  tables_task s u = record {
    shaped = shaped_line p (Some (Task s)) w.shaped;
    subsystems_are = rw (count_of_other 0 above l (omega arith)) w.subsystems_are;
    tasks_are = rw (count_of_same 1 above l refl) (omega (arith, w.tasks_are));
    resources_are = rw (count_of_other 2 above l (omega arith)) w.resources_are;
    tasks_few = omega (arith, w.tasks_are);
    resources_few = w.resources_few;
    budgets_are = entries_other 0 budget_said above p.budgets l w.budgets_are (omega arith);
    owners_are =
        entries_new 1 owner_said above p.owners l w.owners_are p.tasks refl w.tasks_are
        (omega (arith, w.tasks_are, w.shaped.owners_long));
    kinds_are = entries_other 2 kind_said above p.kinds l w.kinds_are (omega arith);
  }
    where
      l : Option Line
      l = Some (Task s)

  pub tables_resource : (k : ℕ) → count_of 2 above < 16 → Tables (above ++ (Some (Resource k) ∷ [])) (with_line p (Some (Resource k)))
  unfolding with_line with_resource kind_of kind_said
  tables_resource k u = record {
    shaped = shaped_line p (Some (Resource k)) w.shaped;
    subsystems_are = rw (count_of_other 0 above l (omega arith)) w.subsystems_are;
    tasks_are = rw (count_of_other 1 above l (omega arith)) w.tasks_are;
    resources_are = rw (count_of_same 2 above l refl) (omega (arith, w.resources_are));
    tasks_few = w.tasks_few;
    resources_few = omega (arith, w.resources_are);
    budgets_are = entries_other 0 budget_said above p.budgets l w.budgets_are (omega arith);
    owners_are = entries_other 1 owner_said above p.owners l w.owners_are (omega arith);
    kinds_are =
        entries_new 2 kind_said above p.kinds l w.kinds_are p.resources refl w.resources_are
        (omega (arith, w.resources_are, w.shaped.kinds_long));
  }
    where
      l : Option Line
      l = Some (Resource k)

  pub tables_use : (t r m : ℕ) → Tables (above ++ (Some (Uses t r m) ∷ [])) (with_line p (Some (Uses t r m)))
  unfolding with_line with_use kind_of
  tables_use t r m = record {
    shaped = shaped_line p (Some (Uses t r m)) w.shaped;
    subsystems_are = rw (count_of_other 0 above l (omega arith)) w.subsystems_are;
    tasks_are = rw (count_of_other 1 above l (omega arith)) w.tasks_are;
    resources_are = rw (count_of_other 2 above l (omega arith)) w.resources_are;
    tasks_few = w.tasks_few;
    resources_few = w.resources_few;
    budgets_are = entries_other 0 budget_said above p.budgets l w.budgets_are (omega arith);
    owners_are = entries_other 1 owner_said above p.owners l w.owners_are (omega arith);
    kinds_are = entries_other 2 kind_said above p.kinds l w.kinds_are (omega arith);
  }
    where
      l : Option Line
      l = Some (Uses t r m)
