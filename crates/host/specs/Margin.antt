-- "Calls from C": what skrzypolot_margin leaves behind.
use Rattle.std.specs.Prelude.{List, ℕ, ℤ, pos, Ok, Err}
use Rattle.reader.specs.Numbers.{unasked_number, unasked_beside}
use Rattle.reader.specs.Margin.{asked}

-- the number returned and the margin, as the call leaves them
pub record MarginCall : Type 0 where
  pub number : ℕ
  pub margin : ℤ

-- what a call returned and left behind
abbrev pub margin_left : ℕ → ℤ → MarginCall
margin_left n m = record { number = n; margin = m }

-- 0 and the margin; or a refusal with the number beside it in the margin's place
unfoldable pub margin_call : List ℕ → ℕ → MarginCall
margin_call text row = elim (asked text row) [ Ok m ↦ margin_left 0 m | Err e ↦ margin_left (unasked_number e) (pos (unasked_beside e)) ]
