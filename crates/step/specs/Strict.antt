-- How long rows of larger level can still hold a row back, as a number of the state: what "Admission" bounds by B.
use Rattle.std.specs.Prelude.{Bool, ◌&&◌, cond, ℕ, leb, ltb}
use Rattle.below.specs.Below.{sum}
use Rattle.plan.specs.declared.Plan.{Plan}
use Rattle.plan.specs.Plan.{owner, level}
use Rattle.plan.specs.Ceiling.{global_ceiling}
use Rattle.state.specs.declared.State.{State}
use Rattle.state.specs.State.{task_at, last_held, in_section, section_left}

-- task k holds row back: its subsystem has a larger level, and it holds a global whose ceiling is at most the level of the row
unfoldable pub holds_back : Plan → State → ℕ → ℕ → Bool
holds_back p s row k =
    in_section p (task_at s k) && ltb (level p row) (level p (owner p k)) && leb (global_ceiling p (last_held (task_at s k))) (level p row)

-- what is left of the sections of all such tasks
unfoldable pub strict_of : Plan → State → ℕ → ℕ
strict_of p s row = sum p.tasks (λ k. cond (holds_back p s row k) (section_left p s k).0 0)
