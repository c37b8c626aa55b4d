-- "The plan text": laws of the two orders, the level of a subsystem and which task is taken before which.
use Rattle.std.proofs.Common.{◌≡◌, Bool, true, false, ℕ, ◌≤◌, ◌<◌, arith, ltb-false, le-ltb}
use Rattle.below.proofs.Search.{first_passes, first_before, first_most}
use Rattle.plan.specs.declared.Plan.{Plan}
use Rattle.plan.specs.Plan.{level, highest, taken_before, foremost}

module _ (p : Plan) where
  -- the level of a row that is there is below the number of subsystems
  pub level_there : (c : ℕ) → c < p.subsystems → level p c < p.subsystems
  unfolding level
  level_there c h = h

  -- two rows of one level are one row
  pub level_same : (c d : ℕ) → level p c ≡ level p d → c ≡ d
  unfolding level
  level_same c d e = e

  -- the row found passes
  pub highest_passes : (q : ℕ → Bool) → highest p q < p.subsystems → q (highest p q) ≡ true
  unfolding highest
  highest_passes q h = first_passes p.subsystems q h

  -- it is the number of subsystems where none passes
  pub highest_none : (q : ℕ → Bool) → p.subsystems ≤ highest p q → (c : ℕ) → c < p.subsystems → q c ≡ false
  unfolding highest
  highest_none q h c r = first_before p.subsystems q c (omega arith)

  -- no row that passes has a smaller level
  pub highest_first : (q : ℕ → Bool) → (c : ℕ) → c < p.subsystems → q c ≡ true → level p (highest p q) ≤ level p c
  unfolding highest level
  highest_first q c r e = first_most p.subsystems q c e

  -- no task is taken before itself
  pub before_irrefl : (k : ℕ) → taken_before p k k ≡ false
  unfolding taken_before
  before_irrefl k = le-ltb k k (omega arith)

  -- two tasks neither of which is taken before the other are one
  pub before_total : (j k : ℕ) → taken_before p j k ≡ false → taken_before p k j ≡ false → j ≡ k
  unfolding taken_before
  before_total j k a b = omega (arith, ltb-false j k a, ltb-false k j b)

  -- the task found passes
  pub foremost_passes : (q : ℕ → Bool) → foremost p q < p.tasks → q (foremost p q) ≡ true
  unfolding foremost
  foremost_passes q h = first_passes p.tasks q h

  -- it is the number of tasks where none passes
  pub foremost_none : (q : ℕ → Bool) → p.tasks ≤ foremost p q → (k : ℕ) → k < p.tasks → q k ≡ false
  unfolding foremost
  foremost_none q h k r = first_before p.tasks q k (omega arith)

  -- no task that passes is taken before it
  pub foremost_first : (q : ℕ → Bool) → (k : ℕ) → k < p.tasks → q k ≡ true → taken_before p k (foremost p q) ≡ false
  unfolding foremost taken_before
  foremost_first q k r e = le-ltb k _ (first_most p.tasks q k e)
