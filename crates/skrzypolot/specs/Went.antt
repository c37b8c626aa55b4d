-- A run whose output goes through a buffer: no contract can say what a call to the system wrote, but what was written out and what the buffer still holds
-- are together what the definition prints.
use Rattle.std.specs.Prelude.{◌≡◌, List, ◌++◌, ℕ}
use Rattle.plan.specs.declared.Plan.{Plan}
use Rattle.run.specs.Stream.{At, fed, fed_printed}

-- a run that stood at x, with some bytes held in the buffer, took the bytes t: it stands at y, with others held
pub record Went (p : Plan) (x : At) (held t : List ℕ) (y : At) (left : List ℕ) : Type 0 where
  pub stands : y ≡ fed p x t
  pub written : List ℕ
  pub printed : written ++ left ≡ held ++ fed_printed p x t
