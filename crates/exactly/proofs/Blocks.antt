-- A block is the block of an accepted plan exactly when some accepted plan text has it.
use Rattle.std.proofs.Common.{◌≡◌, refl, sym, ap, ◌∙◌, Bool, true, false, true≢false, List, ℕ, ◌+◌, ◌*◌, arith, length, eq-eqb}
use mathlib.Core.Bool.{and-eq-true_iff}
use Rattle.below.proofs.Listed.{length_listed}
use Rattle.text.specs.Bytes.{same}
use Rattle.plan.specs.Accepted.{accepted}
use Rattle.exactly.specs.TextOf.{text_of}
use Rattle.exactly.proofs.PlanShape.{Shaped}
use Rattle.exactly.proofs.Sound.{read_shaped, read_accepted}
use Rattle.exactly.proofs.TextOf.{text_reads_back}
use Rattle.image.specs.Words.{byte_at, word_at}
use Rattle.image.specs.Block.{block_bytes, block_of, plan_of, is_block, HasText, block_number}
use Rattle.image.proofs.BlockLaws.{plan_of_block_of, same_refl, same_true}

-- whatever the block, the plan that it writes has tables of their lengths
plan_shaped : (b : List ℕ) → Shaped (plan_of b)
unfolding plan_of
plan_shaped b = record {
  periods_long = length_listed 8 (λ s. word_at b (4 + 4 * s));
  budgets_long = length_listed 8 (λ s. word_at b (4 + 4 * s + 2));
  owners_long = length_listed 32 (λ t. byte_at b (36 + t));
  kinds_long = length_listed 16 (λ r. byte_at b (68 + r));
  lengths_long = length_listed 512 (λ i. word_at b (84 + 2 * i));
}

-- the text of that plan is a text with the block
pub block_has_text : (b : List ℕ) → is_block b ≡ true → HasText b
unfolding is_block
block_has_text b e = go ((and-eq-true_iff (accepted (plan_of b)) (same (block_of (plan_of b)) b)).0 e)
  where
    go : (accepted (plan_of b) ≡ true) × (same (block_of (plan_of b)) b ≡ true) → HasText b
    go h =
        record {
          text = text_of (plan_of b);
          plan = plan_of b;
          reads = text_reads_back (plan_of b) (plan_shaped b) h.0;
          writes = same_true (block_of (plan_of b)) b h.1;
        }

-- the plan of a text with the block is the plan that the block writes
module _ (b : List ℕ) (h : HasText b) where
  shaped : Shaped h.plan
  shaped = read_shaped h.text h.reads

  written : plan_of b ≡ h.plan
  written =
      ap plan_of (sym h.writes)
      ∙ plan_of_block_of h.plan (record {
        periods = shaped.periods_long;
        budgets = shaped.budgets_long;
        owners = shaped.owners_long;
        kinds = shaped.kinds_long;
        lengths = shaped.lengths_long;
      })

  pub text_is_block : is_block b ≡ true
  unfolding is_block
  text_is_block = rw (written, read_accepted h.text h.reads, h.writes) (same_refl b)

-- so among blocks of the right length 31 is answered exactly where no accepted plan text has the block
pub refused_exactly : (b : List ℕ) → length b ≡ block_bytes → (block_number b ≡ 31 → HasText b → ⊥) × ((HasText b → ⊥) → block_number b ≡ 31)
unfolding block_number
refused_exactly b l = rw (eq-eqb (length b) 1108 l, block_number) (go (is_block b) refl)
  where
    go : (t : Bool) → is_block b ≡ t
        → (◌≡◌ {A = ℕ} (elim t [ false ↦ 31 | true ↦ 0 ]) 31 → HasText b → ⊥) × ((HasText b → ⊥) → ◌≡◌ {A = ℕ} (elim t [ false ↦ 31 | true ↦ 0 ]) 31)
    go true e = (λ q. absurd (omega arith), λ n. absurd (n (block_has_text b e)))
    go false e = (λ q h. true≢false (sym (text_is_block b h) ∙ e), λ n. refl)
