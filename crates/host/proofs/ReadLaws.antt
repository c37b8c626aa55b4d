-- The three ends of the call read.
use Rattle.std.proofs.Common.{◌≡◌, sym, List, ℕ, Ok, Err, length, eq-eqb, ne_eqb}
use Rattle.reader.specs.declared.refusals.Refusal.{Refusal}
use Rattle.reader.specs.Numbers.{number, beside}
use Rattle.reader.specs.Reading.{reading}
use Rattle.plan.specs.declared.Plan.{Plan}
use Rattle.image.specs.Block.{block_bytes, block_of}
use Rattle.image.specs.BlockCalls.{block_written}
use Rattle.host.specs.Read.{read_left, read_gives, read_call}

-- a block of the right length is filled
pub filled : (p : Plan) (block : List ℕ) → length block ≡ block_bytes → block_written p block ≡ block_of p
unfolding block_written
filled p block h = rw (eq-eqb _ _ h)

module _ (text block : List ℕ) (before : ℕ) where
  -- another length: everything is kept
  pub wrong_length : (length block ≡ block_bytes → ⊥) → read_left 34 block before ≡ read_call text block before
  unfolding read_call
  wrong_length h = rw (ne_eqb _ _ h, read_call)

  module _ (right : length block ≡ block_bytes) where
    -- a refusal: the block is kept
    pub refused : {e : Refusal} → reading text ≡ Err e → read_left (number e) block (beside e) ≡ read_call text block before
    unfolding read_call read_gives
    refused q = sym (rw (read_call, eq-eqb _ _ right, q, read_gives))

    -- an accepted plan
    pub accepted : {p : Plan} → reading text ≡ Ok p → read_left 0 (block_of p) 0 ≡ read_call text block before
    unfolding read_call read_gives
    accepted q = sym (rw (read_call, eq-eqb _ _ right, q, read_gives))
