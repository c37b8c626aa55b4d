-- A line made from two numbers, or none where there are not two.
use Rattle.std.specs.Prelude.{ℕ}
use Rattle.reader.specs.declared.Line.{Line}
use Rattle.std.specs.Prelude.{Option, Some, None}

abbrev pub of_pair : (ℕ → ℕ → Option Line) → Option (ℕ × ℕ) → Option Line
of_pair F (Some p) = F p.0 p.1
of_pair F None = None
