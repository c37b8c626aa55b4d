-- "Admission": reading a plan text. 20 first, then the first bad line and on it the order of the table, then 29, then 30.
use Rattle.std.specs.Prelude.{Bool, true, false, List, [], ◌∷◌, ℕ, zero, suc, ◌+◌, ltb, eqb, length, set, replicate}
use Rattle.text.specs.Lines.{lines}
use Rattle.plan.specs.declared.Plan.{Plan}
use Rattle.plan.specs.Limits.{most_subsystems, most_tasks, most_resources, undeclared}
use Rattle.plan.specs.Plan.{place}
use Rattle.plan.specs.Admission.{first_negative}
use Rattle.reader.specs.declared.refusals.Refusal.{Refusal}
use Rattle.reader.specs.declared.refusals.Refusal.TheVariants.{TooLong, NotGrammar, KindOrder, TooManyRows, NoSuchRow, OutOfRange, Twice, TwoSubsystems, AboveBudget, NoSubsystem, NegativeMargin}
use Rattle.reader.specs.declared.Line.{Line}
use Rattle.reader.specs.declared.Line.TheVariants.{Subsystem, Task, Resource, Uses}
use Rattle.reader.specs.Line.{line_of, kind_of}
use Rattle.reader.specs.Conditions.{not_grammar, kind_order, too_many_rows, no_such_row, out_of_range, twice, two_subsystems, above_budget}
use Rattle.std.specs.Prelude.{Option, Some, None, Result, Ok, Err}

-- a plan text is at most 16,384 bytes
abbrev pub most_bytes : ℕ
most_bytes = 16384

-- the plan of no line at all
unfoldable pub empty_plan : Plan
empty_plan =
    record {
      subsystems = 0;
      tasks = 0;
      resources = 0;
      periods = replicate most_subsystems 0;
      budgets = replicate most_subsystems 0;
      owners = replicate most_tasks 0;
      kinds = replicate most_resources 0;
      lengths = replicate 512 0;
    }

-- the refusal of the first test that is true
unfoldable pub first_of : List (Bool × Refusal) → Result Unit Refusal
first_of [] = Ok tt
first_of (t ∷ ts) = elim t.0 [ true ↦ Err t.1 | false ↦ first_of ts ]

-- what is said of line n, after a line of the kind last, in the order of the table
unfoldable pub judged : Plan → ℕ → ℕ → Option Line → Result Unit Refusal
judged p last n l =
    first_of
    ((not_grammar l, NotGrammar n)
    ∷ (kind_order last l, KindOrder n)
    ∷ (too_many_rows p l, TooManyRows n)
    ∷ (no_such_row p l, NoSuchRow n)
    ∷ (out_of_range p l, OutOfRange n)
    ∷ (twice p l, Twice n)
    ∷ (two_subsystems p l, TwoSubsystems n)
    ∷ (above_budget p l, AboveBudget n)
    ∷ [])

-- a new resource is undeclared by each of the tasks below n
unfoldable pub opened : ℕ → ℕ → List ℕ → List ℕ
opened zero r ls = ls
opened (suc t) r ls = set (opened t r ls) (place t r) undeclared

-- S: one subsystem more
unfoldable pub with_subsystem : Plan → ℕ → ℕ → Plan
with_subsystem p period budget =
    record {
      subsystems = p.subsystems + 1;
      tasks = p.tasks;
      resources = p.resources;
      periods = set p.periods p.subsystems period;
      budgets = set p.budgets p.subsystems budget;
      owners = p.owners;
      kinds = p.kinds;
      lengths = p.lengths;
    }

-- T: one task more, that uses nothing yet
unfoldable pub with_task : Plan → ℕ → Plan
with_task p subsystem =
    record {
      subsystems = p.subsystems;
      tasks = p.tasks + 1;
      resources = p.resources;
      periods = p.periods;
      budgets = p.budgets;
      owners = set p.owners p.tasks subsystem;
      kinds = p.kinds;
      lengths = p.lengths;
    }

-- R: one resource more, declared by no task yet
unfoldable pub with_resource : Plan → ℕ → Plan
with_resource p kind =
    record {
      subsystems = p.subsystems;
      tasks = p.tasks;
      resources = p.resources + 1;
      periods = p.periods;
      budgets = p.budgets;
      owners = p.owners;
      kinds = set p.kinds p.resources kind;
      lengths = opened p.tasks p.resources p.lengths;
    }

-- U: the task declares the resource with a length
unfoldable pub with_use : Plan → ℕ → ℕ → ℕ → Plan
with_use p task resource length =
    record {
      subsystems = p.subsystems;
      tasks = p.tasks;
      resources = p.resources;
      periods = p.periods;
      budgets = p.budgets;
      owners = p.owners;
      kinds = p.kinds;
      lengths = set p.lengths (place task resource) length;
    }

-- rows count from 0 in the order of their lines
unfoldable pub with_line : Plan → Option Line → Plan
with_line p (Some (Subsystem period budget)) = with_subsystem p period budget
with_line p (Some (Task subsystem)) = with_task p subsystem
with_line p (Some (Resource kind)) = with_resource p kind
with_line p (Some (Uses task resource length)) = with_use p task resource length
with_line p None = p

-- reading on at line n, after a line of the kind last: up to the first bad line, or the plan of all lines
unfoldable pub read_from : List (List ℕ) → ℕ → ℕ → Plan → Result Plan Refusal
read_from [] n last p = Ok p
read_from (l ∷ ls) n last p =
    elim (judged p last n (line_of l)) [
      | Ok u ↦ read_from ls (n + 1) (kind_of (line_of l)) (with_line p (line_of l))
      | Err e ↦ Err e
    ]

-- 29: no S line
unfoldable pub judged_rowless : Plan → Result Plan Refusal
judged_rowless p = elim (eqb p.subsystems 0) [ true ↦ Err NoSubsystem | false ↦ Ok p ]

-- what reading a plan text answers but for 30: the plan as it is listed, whatever its margins
unfoldable pub listed_reading : List ℕ → Result Plan Refusal
listed_reading text =
    elim (ltb most_bytes (length text)) [
      | true ↦ Err TooLong
      | false ↦ elim (read_from (lines text) 1 0 empty_plan) [ Ok p ↦ judged_rowless p | Err e ↦ Err e ]
    ]

-- 30: a margin is negative, with the first such row
unfoldable pub judged_margins : Plan → Result Plan Refusal
judged_margins p = elim (ltb (first_negative p) p.subsystems) [ true ↦ Err (NegativeMargin (first_negative p)) | false ↦ Ok p ]

-- what reading a plan text answers
unfoldable pub reading : List ℕ → Result Plan Refusal
reading text = elim (listed_reading text) [ Ok p ↦ judged_margins p | Err e ↦ Err e ]
