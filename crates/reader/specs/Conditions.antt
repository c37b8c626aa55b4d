-- "Admission", its table: each refusal of a line, as a test over the plan read so far.
use Rattle.std.specs.Prelude.{Bool, true, false, not, ◌&&◌, ◌||◌, cond, ℕ, leb, ltb, eqb}
use Rattle.below.specs.Below.{any}
use Rattle.plan.specs.declared.Plan.{Plan}
use Rattle.plan.specs.Limits.{most_subsystems, most_tasks, most_resources, longest}
use Rattle.plan.specs.Plan.{budget, owner, is_global, declares}
use Rattle.reader.specs.declared.Line.{Line}
use Rattle.reader.specs.declared.Line.TheVariants.{Subsystem, Task, Resource, Uses}
use Rattle.reader.specs.Line.{kind_of}
use Rattle.std.specs.Prelude.{Option, Some, None}

-- 21: not of the grammar
unfoldable pub not_grammar : Option Line → Bool
not_grammar None = true
not_grammar (Some l) = false

-- 22: its kind comes after a later kind; last is the kind of the line before
unfoldable pub kind_order : ℕ → Option Line → Bool
kind_order last l = ltb (kind_of l) last

-- 23: the kind has all its rows already
unfoldable pub too_many_rows : Plan → Option Line → Bool
too_many_rows p (Some (Subsystem period budget)) = leb most_subsystems p.subsystems
too_many_rows p (Some (Task subsystem)) = leb most_tasks p.tasks
too_many_rows p (Some (Resource kind)) = leb most_resources p.resources
too_many_rows p (Some (Uses task resource length)) = false
too_many_rows p None = false

-- 24: it names a row that is not there
unfoldable pub no_such_row : Plan → Option Line → Bool
no_such_row p (Some (Subsystem period budget)) = false
no_such_row p (Some (Task subsystem)) = leb p.subsystems subsystem
no_such_row p (Some (Resource kind)) = false
no_such_row p (Some (Uses task resource length)) = leb p.tasks task || leb p.resources resource
no_such_row p None = false

-- 25: a period beyond 1..10000, a budget beyond 1..period, a length other than 0 for a local or beyond 1..10000 for a global
unfoldable pub out_of_range : Plan → Option Line → Bool
out_of_range p (Some (Subsystem period budget)) = not (leb 1 period && leb period longest && leb 1 budget && leb budget period)
out_of_range p (Some (Task subsystem)) = false
out_of_range p (Some (Resource kind)) = false
out_of_range p (Some (Uses task resource length)) = not (cond (is_global p resource) (leb 1 length && leb length longest) (eqb length 0))
out_of_range p None = false

-- 26: the pair was declared before
unfoldable pub twice : Plan → Option Line → Bool
twice p (Some (Subsystem period budget)) = false
twice p (Some (Task subsystem)) = false
twice p (Some (Resource kind)) = false
twice p (Some (Uses task resource length)) = declares p task resource
twice p None = false

-- 27: a local resource that a task of another subsystem declared before
unfoldable pub two_subsystems : Plan → Option Line → Bool
two_subsystems p (Some (Subsystem period budget)) = false
two_subsystems p (Some (Task subsystem)) = false
two_subsystems p (Some (Resource kind)) = false
two_subsystems p (Some (Uses task resource length)) =
    not (is_global p resource) && any p.tasks (λ k. declares p k resource && not (eqb (owner p k) (owner p task)))
two_subsystems p None = false

-- 28: longer than the budget of the task's subsystem
unfoldable pub above_budget : Plan → Option Line → Bool
above_budget p (Some (Subsystem period budget)) = false
above_budget p (Some (Task subsystem)) = false
above_budget p (Some (Resource kind)) = false
above_budget p (Some (Uses task resource length)) = ltb (budget p (owner p task)) length
above_budget p None = false
