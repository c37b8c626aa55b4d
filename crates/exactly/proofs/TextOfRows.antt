-- The S, T and R lines of a plan's text read back: the plan after some of them is the plan cut to those rows.
use Rattle.std.proofs.Common.{◌≡◌, refl, sym, ap, ◌∙◌, Bool, true, false, List, [], ◌∷◌, ℕ, suc, ◌≤◌, ◌<◌, add-one, arith, get_or, le-ltb, le-leb, eqb-true, Option, Some}
use borrow.Author.Tests.{lt-leb, eqb-false}
use Rattle.text.specs.Bytes.{bytes}
use Rattle.text.specs.Numbers.{decimal}
use Rattle.plan.specs.declared.Plan.{Plan}
use Rattle.plan.specs.Plan.{period, budget, owner, is_global}
use Rattle.reader.specs.declared.Line.{Line}
use Rattle.reader.specs.declared.Line.TheVariants.{Subsystem, Task, Resource}
use Rattle.reader.specs.Line.{of_fields, kind_of}
use Rattle.reader.specs.Conditions.{not_grammar, kind_order, too_many_rows, no_such_row, out_of_range, twice, two_subsystems, above_budget}
use Rattle.reader.specs.Reading.{empty_plan, with_line, with_subsystem, with_task, with_resource}
use Rattle.exactly.specs.TextOf.{tabbed, texts, subsystem_text, task_text, kind_text, resource_text}
use Rattle.exactly.proofs.SoundPlan.{Sound}
use Rattle.exactly.proofs.TextOfDecimal.{Plain, decimal_plain}
use Rattle.exactly.proofs.TextOfLines.{AllPlain, one_line, line_of_lem, subsystem_line, task_line, local_line, global_line}
use Rattle.exactly.proofs.TextOfReads.{Reads, reads_texts, reads_line, Passes}
use Rattle.exactly.proofs.TextOfTables.{copied, copied_whole, opened_to}

-- a plan cut to its first i subsystems, or to these and its first i tasks, or to all but the lengths of all but its first i resources
unfoldable pub subsystems_to : Plan → ℕ → Plan
subsystems_to p i =
    record {
      subsystems = i;
      tasks = 0;
      resources = 0;
      periods = copied p.periods 8 i;
      budgets = copied p.budgets 8 i;
      owners = copied p.owners 32 0;
      kinds = copied p.kinds 16 0;
      lengths = opened_to p.tasks 0;
    }

unfoldable pub tasks_to : Plan → ℕ → Plan
tasks_to p i =
    record {
      subsystems = p.subsystems;
      tasks = i;
      resources = 0;
      periods = p.periods;
      budgets = p.budgets;
      owners = copied p.owners 32 i;
      kinds = copied p.kinds 16 0;
      lengths = opened_to p.tasks 0;
    }

unfoldable pub resources_to : Plan → ℕ → Plan
resources_to p i =
    record {
      subsystems = p.subsystems;
      tasks = p.tasks;
      resources = i;
      periods = p.periods;
      budgets = p.budgets;
      owners = p.owners;
      kinds = copied p.kinds 16 i;
      lengths = opened_to p.tasks i;
    }

-- a plan with other lengths
unfoldable pub with_lengths : Plan → List ℕ → Plan
with_lengths p ls =
    record {
      subsystems = p.subsystems;
      tasks = p.tasks;
      resources = p.resources;
      periods = p.periods;
      budgets = p.budgets;
      owners = p.owners;
      kinds = p.kinds;
      lengths = ls;
    }

-- a line of fields is read where it passes
pub reads_fields : (k : ℕ) (f : List ℕ) (fs : List (List ℕ)) (p q : Plan) (l : Option Line) → Plain f → AllPlain fs → of_fields (f ∷ fs) ≡ l → kind_of l ≡ k
    → ((last : ℕ) → last ≤ k → Passes p last l) → with_line p l ≡ q → Reads k k (tabbed (f ∷ fs)) p q
reads_fields k f fs p q l pf pfs e kind w next =
    reads_line k (tabbed (f ∷ fs)) p q l (one_line f fs pf pfs) (line_of_lem f fs pf pfs ∙ e) kind w next

range_subsystem : (q : Plan) (a b : ℕ) → (1 ≤ a) × (a ≤ 10000) → (1 ≤ b) × (b ≤ a) → out_of_range q (Some (Subsystem a b)) ≡ false
unfolding out_of_range
range_subsystem q a b h l = rw (le-leb 1 a h.0, le-leb a 10000 h.1, le-leb 1 b l.0, le-leb b a l.1)

module _ (p : Plan) (w : Sound p) where
  -- the S lines

  subsystem_passes : (i : ℕ) → i < p.subsystems → (last : ℕ) → last ≤ 0 → Passes (subsystems_to p i) last (Some (Subsystem (period p i) (budget p i)))
  unfolding subsystems_to not_grammar kind_order too_many_rows no_such_row twice two_subsystems above_budget kind_of period budget
  subsystem_passes i h last u = record {
    grammar = refl;
    order = le-ltb 0 last u;
    rows_left = lt-leb 8 i (omega (arith, w.periods_fit.few));
    rows_there = refl;
    range = range_subsystem (subsystems_to p i) (period p i) (budget p i) (w.periods_fit.fits i h) (w.budgets_fit.fits i h);
    once = refl;
    one_subsystem = refl;
    within = refl;
  }

  subsystem_next : (i : ℕ) → with_line (subsystems_to p i) (Some (Subsystem (period p i) (budget p i))) ≡ subsystems_to p (suc i)
  unfolding subsystems_to with_line with_subsystem copied period budget
  subsystem_next i = rw (add-one i)

  subsystem_reads : (i : ℕ) → i < p.subsystems → Reads 0 0 (subsystem_text p i) (subsystems_to p i) (subsystems_to p (suc i))
  unfolding subsystem_text kind_of bytes period budget
  subsystem_reads i h =
      let f = w.periods_fit.fits i h in
      let g = w.budgets_fit.fits i h in
      reads_fields 0 (bytes "S") (decimal (period p i) ∷ decimal (budget p i) ∷ []) (subsystems_to p i) (subsystems_to p (suc i)) (Some (Subsystem (period p i) (budget p i)))
      (omega arith)
      (decimal_plain (period p i), (decimal_plain (budget p i), tt))
      (subsystem_line (period p i) (budget p i) (omega arith) (omega arith))
      refl
      (subsystem_passes i h)
      (subsystem_next i)

  -- all of them are the plan cut to no task
  subsystems_done : subsystems_to p p.subsystems ≡ tasks_to p 0
  unfolding subsystems_to tasks_to
  subsystems_done =
      rw (
        copied_whole p.periods 8 p.subsystems w.shaped.periods_long w.periods_fit.few w.periods_fit.none,
        copied_whole p.budgets 8 p.subsystems w.shaped.budgets_long w.budgets_fit.few w.budgets_fit.none,
      )

  pub reads_subsystems : Reads 0 0 (texts p.subsystems (subsystem_text p)) empty_plan (tasks_to p 0)
  unfolding subsystems_to empty_plan copied opened_to
  reads_subsystems = rw subsystems_done at (reads_texts 0 p.subsystems (subsystem_text p) (subsystems_to p) subsystem_reads)

  -- the T lines

  task_passes : (i : ℕ) → i < p.tasks → (last : ℕ) → last ≤ 1 → Passes (tasks_to p i) last (Some (Task (owner p i)))
  unfolding tasks_to not_grammar kind_order too_many_rows no_such_row out_of_range twice two_subsystems above_budget kind_of owner
  task_passes i h last u = record {
    grammar = refl;
    order = le-ltb 1 last u;
    rows_left = lt-leb 32 i (omega (arith, w.owners_fit.few));
    rows_there = lt-leb p.subsystems (owner p i) (w.owners_fit.fits i h);
    range = refl;
    once = refl;
    one_subsystem = refl;
    within = refl;
  }

  task_next : (i : ℕ) → with_line (tasks_to p i) (Some (Task (owner p i))) ≡ tasks_to p (suc i)
  unfolding tasks_to with_line with_task copied owner
  task_next i = rw (add-one i)

  task_reads : (i : ℕ) → i < p.tasks → Reads 1 1 (task_text p i) (tasks_to p i) (tasks_to p (suc i))
  unfolding task_text kind_of bytes owner
  task_reads i h =
      reads_fields 1 (bytes "T") (decimal (owner p i) ∷ []) (tasks_to p i) (tasks_to p (suc i)) (Some (Task (owner p i)))
      (omega arith)
      (decimal_plain (owner p i), tt)
      (task_line (owner p i) (omega (arith, w.owners_fit.fits i h, w.periods_fit.few)))
      refl
      (task_passes i h)
      (task_next i)

  tasks_done : tasks_to p p.tasks ≡ resources_to p 0
  unfolding tasks_to resources_to
  tasks_done = rw (copied_whole p.owners 32 p.tasks w.shaped.owners_long w.owners_fit.few w.owners_fit.none)

  pub reads_tasks : Reads 1 1 (texts p.tasks (task_text p)) (tasks_to p 0) (resources_to p 0)
  reads_tasks = rw tasks_done at (reads_texts 1 p.tasks (task_text p) (tasks_to p) task_reads)

  -- the R lines

  kind : ℕ → ℕ
  kind r = get_or p.kinds r 0

  resource_passes : (i : ℕ) → i < p.resources → (last : ℕ) → last ≤ 2 → Passes (resources_to p i) last (Some (Resource (kind i)))
  unfolding resources_to not_grammar kind_order too_many_rows no_such_row out_of_range twice two_subsystems above_budget kind_of
  resource_passes i h last u = record {
    grammar = refl;
    order = le-ltb 2 last u;
    rows_left = lt-leb 16 i (omega (arith, w.kinds_fit.few));
    rows_there = refl;
    range = refl;
    once = refl;
    one_subsystem = refl;
    within = refl;
  }

  resource_next : (i : ℕ) → with_line (resources_to p i) (Some (Resource (kind i))) ≡ resources_to p (suc i)
  unfolding resources_to with_line with_resource copied opened_to kind
  resource_next i = rw (add-one i)

  kind_plain : (i : ℕ) → Plain (kind_text p i)
  unfolding kind_text bytes
  kind_plain i = go (is_global p i)
    where
      go : (b : Bool) → Plain (elim b [ true ↦ bytes "G" | false ↦ bytes "L" ])
      go true = omega arith
      go false = omega arith

  kind_line : (i : ℕ) → i < p.resources → of_fields (bytes "R" ∷ kind_text p i ∷ []) ≡ Some (Resource (kind i))
  unfolding kind_text is_global kind
  kind_line i h = go (is_global p i) refl
    where
      go : (b : Bool) → is_global p i ≡ b → of_fields (bytes "R" ∷ elim b [ true ↦ bytes "G" | false ↦ bytes "L" ] ∷ []) ≡ Some (Resource (kind i))
      go true e = global_line ∙ ap (λ k. Some (Resource k)) (sym (eqb-true (kind i) 1 e))
      go false e = local_line ∙ ap (λ k. Some (Resource k)) (omega (arith, eqb-false (kind i) 1 e, w.kinds_fit.fits i h))

  resource_reads : (i : ℕ) → i < p.resources → Reads 2 2 (resource_text p i) (resources_to p i) (resources_to p (suc i))
  unfolding resource_text kind_of bytes
  resource_reads i h =
      reads_fields 2 (bytes "R") (kind_text p i ∷ []) (resources_to p i) (resources_to p (suc i)) (Some (Resource (kind i)))
      (omega arith)
      (kind_plain i, tt)
      (kind_line i h)
      refl
      (resource_passes i h)
      (resource_next i)

  resources_done : resources_to p p.resources ≡ with_lengths p (opened_to p.tasks p.resources)
  unfolding resources_to with_lengths
  resources_done = rw (copied_whole p.kinds 16 p.resources w.shaped.kinds_long w.kinds_fit.few w.kinds_fit.none)

  pub reads_resources : Reads 2 2 (texts p.resources (resource_text p)) (resources_to p 0) (with_lengths p (opened_to p.tasks p.resources))
  reads_resources = rw resources_done at (reads_texts 2 p.resources (resource_text p) (resources_to p) resource_reads)
