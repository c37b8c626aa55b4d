-- "Calls from C": the state image, 320 bytes, both ways, and when an image is refused.
use Rattle.std.specs.Prelude.{Bool, true, false, ◌&&◌, List, [], ◌∷◌, ◌++◌, ℕ, ◌+◌, ◌*◌, ◌/◌, ◌%◌, eqb, length}
use Rattle.below.specs.Listed.{listed}
use Rattle.text.specs.Bytes.{same}
use Rattle.plan.specs.declared.Plan.{Plan}
use Rattle.plan.specs.Limits.{most_subsystems, most_tasks}
use Rattle.state.specs.declared.Task.{Task}
use Rattle.state.specs.declared.State.{State}
use Rattle.state.specs.State.{most_held, task_at, left_of, refill_of, used_of}
use Rattle.legal.specs.Legal.{legal}
use Rattle.image.specs.Words.{word, byte_at, word_at}

-- the length of a state image
abbrev pub image_bytes : ℕ
image_bytes = 320

-- tasks stand behind the 8 bytes of each subsystem
abbrev pub tasks_at : ℕ
tasks_at = 64

-- budget left, to refill, used, 0
unfoldable pub subsystem_bytes : State → ℕ → List ℕ
subsystem_bytes s c = word (left_of s c).0 ++ (word (refill_of s c) ++ (word (used_of s c) ++ word 0))

-- condition, resource waited for or 255, held count, four held or 255, 0
unfoldable pub task_bytes : Task → List ℕ
task_bytes t = t.condition ∷ t.waits ∷ t.count ∷ (t.held ++ (0 ∷ []))

-- lists one behind the other
unfoldable pub joined : List (List ℕ) → List ℕ
joined [] = []
joined (l ∷ ls) = l ++ joined ls

-- the image of a state: its subsystems, then its tasks
unfoldable pub image_of : State → List ℕ
image_of s = joined (listed most_subsystems (subsystem_bytes s)) ++ joined (listed most_tasks (λ k. task_bytes (task_at s k)))

-- where the byte of task k that comes i-th stands
unfoldable pub task_byte_at : ℕ → ℕ → ℕ
task_byte_at k i = tasks_at + 8 * k + i

-- the state that an image writes, legal or not
unfoldable pub state_of : List ℕ → State
state_of b =
    record {
      left = listed most_subsystems (λ c. record { 0 = word_at b (8 * c) });
      refill = listed most_subsystems (λ c. word_at b (8 * c + 2));
      used = listed most_subsystems (λ c. word_at b (8 * c + 4));
      conditions = listed most_tasks (λ k. byte_at b (task_byte_at k 0));
      waits = listed most_tasks (λ k. byte_at b (task_byte_at k 1));
      counts = listed most_tasks (λ k. byte_at b (task_byte_at k 2));
      held = listed 128 (λ i. byte_at b (task_byte_at (i / most_held) (3 + i % most_held)));
    }

-- the image of a state that is legal for the plan
unfoldable pub is_image : Plan → List ℕ → Bool
is_image p b = legal p (state_of b) && same (image_of (state_of b)) b

-- 34: wrong length; 32: the image of no legal state; else 0
unfoldable pub image_number : Plan → List ℕ → ℕ
image_number p b = elim (eqb (length b) image_bytes) [ false ↦ 34 | true ↦ elim (is_image p b) [ false ↦ 32 | true ↦ 0 ] ]
