-- "Calls from C": the plan block, 1,108 bytes, both ways, and when a block is refused.
use Rattle.std.specs.Prelude.{◌≡◌, Bool, true, false, ◌&&◌, List, [], ◌∷◌, ◌++◌, ℕ, ◌+◌, ◌*◌, eqb, length, Ok}
use Rattle.below.specs.Listed.{listed}
use Rattle.text.specs.Bytes.{same}
use Rattle.reader.specs.Reading.{reading}
use Rattle.plan.specs.declared.Plan.{Plan}
use Rattle.plan.specs.Limits.{most_subsystems, most_tasks, most_resources}
use Rattle.plan.specs.Accepted.{accepted}
use Rattle.image.specs.Words.{word, words, byte_at, word_at}

-- the length of a plan block
abbrev pub block_bytes : ℕ
block_bytes = 1108

-- where the sections of the block begin: after the counts of S, T, R and a 0 stand period and budget of each subsystem, owners, kinds, lengths
abbrev pub subsystems_at : ℕ
subsystems_at = 4

-- 32 owners, a byte each
abbrev pub owners_at : ℕ
owners_at = 36

-- 16 kinds, a byte each
abbrev pub kinds_at : ℕ
kinds_at = 68

-- 32 times 16 lengths by task, 16 bits each
abbrev pub lengths_at : ℕ
lengths_at = 84

-- period and budget in turn, from row 0 on
unfoldable pub subsystem_words : List ℕ → List ℕ → List ℕ
subsystem_words [] qs = []
subsystem_words (p ∷ ps) [] = []
subsystem_words (p ∷ ps) (q ∷ qs) = word p ++ (word q ++ subsystem_words ps qs)

-- the block of a plan: counts of S, T, R and a 0, then its sections
unfoldable pub block_of : Plan → List ℕ
block_of p =
    p.subsystems ∷ p.tasks ∷ p.resources ∷ 0
    ∷ (subsystem_words p.periods p.budgets ++ (p.owners ++ (p.kinds ++ words p.lengths)))

-- the plan that a block writes, accepted or not
unfoldable pub plan_of : List ℕ → Plan
plan_of b =
    record {
      subsystems = byte_at b 0;
      tasks = byte_at b 1;
      resources = byte_at b 2;
      periods = listed most_subsystems (λ s. word_at b (subsystems_at + 4 * s));
      budgets = listed most_subsystems (λ s. word_at b (subsystems_at + 4 * s + 2));
      owners = listed most_tasks (λ t. byte_at b (owners_at + t));
      kinds = listed most_resources (λ r. byte_at b (kinds_at + r));
      lengths = listed 512 (λ i. word_at b (lengths_at + 2 * i));
    }

-- the block of an accepted plan
unfoldable pub is_block : List ℕ → Bool
is_block b = accepted (plan_of b) && same (block_of (plan_of b)) b

-- "31 exactly when": some accepted plan text has the block
pub record HasText (b : List ℕ) : Type 0 where
  pub text : List ℕ
  pub plan : Plan
  pub reads : reading text ≡ Ok plan
  pub writes : block_of plan ≡ b

-- 34: wrong length; 31: the block of no accepted plan; else 0
unfoldable pub block_number : List ℕ → ℕ
block_number b = elim (eqb (length b) block_bytes) [ false ↦ 34 | true ↦ elim (is_block b) [ false ↦ 31 | true ↦ 0 ] ]
