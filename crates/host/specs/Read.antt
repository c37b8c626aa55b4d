-- "Calls from C": what skrzypolot_read leaves behind, of everything it is lent.
use Rattle.std.specs.Prelude.{true, false, List, ℕ, eqb, length, Result, Ok, Err}
use Rattle.plan.specs.declared.Plan.{Plan}
use Rattle.reader.specs.declared.refusals.Refusal.{Refusal}
use Rattle.reader.specs.Numbers.{number, beside}
use Rattle.reader.specs.Reading.{reading}
use Rattle.image.specs.Block.{block_bytes, block_of}

-- the number returned, the block and the number beside, as the call leaves them
pub record ReadCall : Type 0 where
  pub number : ℕ
  pub block : List ℕ
  pub beside : ℕ

-- what a call returned and left behind
abbrev pub read_left : ℕ → List ℕ → ℕ → ReadCall
read_left n block beside = record { number = n; block = block; beside = beside }

-- an accepted plan fills the block; a refusal keeps it and says the number beside
unfoldable pub read_gives : Result Plan Refusal → List ℕ → ReadCall
read_gives r block = elim r [ Ok p ↦ read_left 0 (block_of p) 0 | Err e ↦ read_left (number e) block (beside e) ]

-- 34 comes first, and keeps everything
unfoldable pub read_call : List ℕ → List ℕ → ℕ → ReadCall
read_call text block beside =
    elim (eqb (length block) block_bytes) [
      | true ↦ read_gives (reading text) block
      | false ↦ record { number = 34; block = block; beside = beside }
    ]
