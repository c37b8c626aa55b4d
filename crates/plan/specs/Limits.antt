-- "The plan text": how many rows of a kind, and how large a number. "Calls from C": how absent and undeclared are written.
use Rattle.std.specs.Prelude.{ℕ}

-- at most 8 subsystems
abbrev pub most_subsystems : ℕ
most_subsystems = 8

-- at most 32 tasks
abbrev pub most_tasks : ℕ
most_tasks = 32

-- at most 16 resources
abbrev pub most_resources : ℕ
most_resources = 16

-- a period and a global length go up to 10000
abbrev pub longest : ℕ
longest = 10000

-- the length of a pair with no U line
abbrev pub undeclared : ℕ
undeclared = 65535

-- no row, of a subsystem, a task or a resource, in a state and in an answer
abbrev pub no_row : ℕ
no_row = 255
