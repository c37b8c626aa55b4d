-- How long a row's text is.
use Rattle.std.proofs.Common.{◌≡◌, ℕ, ◌≤◌, ◌<◌, Bool, true, false, length, refl, arith}
use Rattle.std.specs.Prelude.{eqb}
use Rattle.text.specs.Bytes.{bytes}
use Rattle.line.specs.Printed.{row_text}
use Rattle.line.proofs.Decimal.{digits_u8}

pub row_length : (k : ℕ) → k < 256 → length (row_text k) ≤ 3
unfolding row_text bytes
row_length k h = go (eqb k 255) refl
  where
    go : (b : Bool) → eqb k 255 ≡ b → length (row_text k) ≤ 3
    go true t = rw (row_text, t) (omega arith)
    go false t = rw (row_text, t) (digits_u8 k h)
