-- "Calls from C": the bytes of a state image that are 0 in every image, and the test for them.
use Rattle.std.specs.Prelude.{Bool, ◌&&◌, List, ℕ, ◌+◌, ◌*◌, eqb}
use Rattle.below.specs.Below.{all}
use Rattle.plan.specs.Limits.{most_subsystems, most_tasks}
use Rattle.image.specs.Words.{byte_at, word_at}
use Rattle.image.specs.Image.{task_byte_at}

-- the fourth number of subsystem c is 0
unfoldable pub subsystem_pad : List ℕ → ℕ → Bool
subsystem_pad b c = eqb (word_at b (8 * c + 6)) 0

-- the last byte of task k is 0
unfoldable pub task_pad : List ℕ → ℕ → Bool
task_pad b k = eqb (byte_at b (task_byte_at k 7)) 0

-- all of them
unfoldable pub pads_zero : List ℕ → Bool
pads_zero b = all most_subsystems (subsystem_pad b) && all most_tasks (task_pad b)
