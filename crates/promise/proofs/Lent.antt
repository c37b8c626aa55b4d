-- "Calls from C": the block that an accepted text leaves is a block of the right length, and it writes the plan that was read.
use mathlib.Core.Path.{◌≡◌, refl}
use mathlib.Core.Bool.{Bool, true, false}
use mathlib.Core.List.{List}
use Prim.Native.Nat.{ℕ}
use native.Mathlib.Omega.{arith}
use lib.Dec.{eqb}
use lib.ListN.{length, length-append}
use Rattle.plan.specs.declared.Plan.{Plan}
use Rattle.plan.specs.Accepted.{accepted}
use Rattle.reader.specs.declared.refusals.Refusal.{Refusal}
use Rattle.reader.specs.declared.refusals.Refusal.TheVariants.{TooLong, NotGrammar, KindOrder, TooManyRows, NoSuchRow, OutOfRange, Twice, TwoSubsystems, AboveBudget, NoSubsystem, NegativeMargin}
use Rattle.reader.specs.Numbers.{number, beside}
use Rattle.reader.specs.Reading.{reading}
use Rattle.image.specs.Block.{block_bytes, block_of, plan_of, is_block}
use Rattle.image.proofs.WordLaws.{length_words}
use Rattle.image.proofs.BlockLaws as block-laws
use Rattle.image.proofs.BlockLaws.{subsystems_long, plan_of_block_of}
use Rattle.exactly.proofs.PlanShape.{Shaped}
use Rattle.exactly.proofs.Sound.{read_shaped, read_accepted}
use Rattle.exactly.proofs.Blocks.{text_is_block}
use Rattle.host.specs.Read.{ReadCall, read_left, read_gives, read_call}
use Rattle.std.specs.Prelude.{Result, Ok, Err}

-- a block that a host lends, and the plan that it writes
pub record Lent (p : Plan) (b : List ℕ) : Type 0 where
  pub accepts : accepted p ≡ true
  pub long : length b ≡ block_bytes
  pub block : is_block b ≡ true
  pub plan : plan_of b ≡ p

-- the tables of a plan that was read
sized : (p : Plan) → Shaped p → block-laws.Sized p
sized p S = record {
  periods = S.periods_long;
  budgets = S.budgets_long;
  owners = S.owners_long;
  kinds = S.kinds_long;
  lengths = S.lengths_long;
}

-- 4 bytes of counts, 32 of subsystems, 32 owners, 16 kinds, 1,024 of lengths
block_long : (p : Plan) → Shaped p → length (block_of p) ≡ block_bytes
unfolding block_of
block_long p S =
    simp length-append
    (omega (arith, subsystems_long p (sized p S), length_words p.lengths, S.owners_long, S.kinds_long, S.lengths_long))

-- the block of an accepted text
lent : (text : List ℕ) (p : Plan) → reading text ≡ Ok p → Lent p (block_of p)
lent text p e = record {
  accepts = read_accepted text e;
  long = block_long p (read_shaped text e);
  block = text_is_block (block_of p) (record { text = text; plan = p; reads = e; writes = refl });
  plan = plan_of_block_of p (sized p (read_shaped text e));
}

-- no refusal has the number 0
number_some : (e : Refusal) → number e ≡ 0 → ⊥
number_some TooLong z = omega arith
number_some (NotGrammar n) z = omega arith
number_some (KindOrder n) z = omega arith
number_some (TooManyRows n) z = omega arith
number_some (NoSuchRow n) z = omega arith
number_some (OutOfRange n) z = omega arith
number_some (Twice n) z = omega arith
number_some (TwoSubsystems n) z = omega arith
number_some (AboveBudget n) z = omega arith
number_some NoSubsystem z = omega arith
number_some (NegativeMargin n) z = omega arith

-- a text that was read, and the block lent for its plan
pub record ReadLent (text block : List ℕ) : Type 0 where
  pub plan : Plan
  pub reads : reading text ≡ Ok plan
  pub lends : Lent plan block

-- the call read answers 0 only with that block
module _ (text buffer : List ℕ) (before : ℕ) where
  -- what a call left, if it answered 0
  Gives : ReadCall → Type 0
  Gives c = c.number ≡ 0 → ReadLent text c.block

  reading_gives : Gives (read_gives (reading text) buffer)
  unfolding Gives read_gives
  reading_gives = go (reading text) refl
    where
      go : (r : Result Plan Refusal) → reading text ≡ r
          → Gives (elim r [ Ok p ↦ read_left 0 (block_of p) 0 | Err e ↦ read_left (number e) buffer (beside e) ])
      go (Ok p) e = λ z. record { plan = p; reads = e; lends = lent text p e }
      go (Err v) e = λ z. absurd (number_some v z)

  call_gives : Gives (read_call text buffer before)
  unfolding Gives read_call
  call_gives = go (eqb (length buffer) block_bytes)
    where
      go : (b : Bool) → Gives (elim b [ true ↦ read_gives (reading text) buffer | false ↦ record { number = 34; block = buffer; beside = before } ])
      go true = reading_gives
      go false = λ z. absurd (omega arith)

  pub read_lent : (read_call text buffer before).number ≡ 0 → ReadLent text (read_call text buffer before).block
  unfolding Gives
  read_lent = call_gives
