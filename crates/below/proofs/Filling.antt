-- How a loop that stores a value into each place of a table makes the list of the values.
use Rattle.std.proofs.Common.{◌≡◌, ◌∙◌, ⊎_elim, List, ℕ, ◌+◌, ◌≤◌, ◌<◌, arith, length, get_or}
use native.Mathlib.Nat.{ne_of_lt, lt_of_lt_of_le}
use native.Mathlib.Numerals.{add-one}
use lib.ListN.{set, length-set}
use lib.Seq.{get_or-set_same, get_or-set_other}
use Rattle.below.specs.Listed.{listed}
use Rattle.below.proofs.Search.{last_or_before}
use Rattle.below.proofs.Listed.{listed_is}

module _ {A : Type 0} where
  -- the value at i is stored into place i: what stands below i, and then below i + 1
  pub filled_next : (f : ℕ → A) (d : A) (l : List A) (i : ℕ) (v : A) → i < length l → v ≡ f i → ((k : ℕ) → k < i → get_or l k d ≡ f k)
      → (k : ℕ) → k < i + 1 → get_or (set l i v) k d ≡ f k
  filled_next f d l i v h e before k u =
      ⊎_elim
      (λ q. rw q (get_or-set_same l i v d h ∙ e))
      (λ w. get_or-set_other l i k v d (ne_of_lt w) ∙ before k w)
      (last_or_before (rw add-one at u))

  -- and when every number is passed
  pub filled_ended : (n i : ℕ) (f : ℕ → A) (d : A) (l : List A) → n ≤ i → length l ≡ n → ((k : ℕ) → k < i → get_or l k d ≡ f k) → l ≡ listed n f
  filled_ended n i f d l h e below = listed_is n f d l e (λ k u. below k (lt_of_lt_of_le u h))

  -- the same as one invariant: i of the n places of l hold their values, and the others are to come
  pub record Filled (n : ℕ) (f : ℕ → A) (d : A) (l : List A) (i : ℕ) : Type 0 where
    pub within : i ≤ n
    pub sized : length l ≡ n
    pub passed : (k : ℕ) → k < i → get_or l k d ≡ f k

  pub filled_begun : {n : ℕ} {f : ℕ → A} {d : A} {l : List A} {i : ℕ} → length l ≡ n → i ≡ 0 → Filled n f d l i
  filled_begun e z = record { within = omega arith; sized = e; passed = λ k h. absurd (omega arith) }

  module _ {n : ℕ} {f : ℕ → A} {d : A} {l : List A} {i : ℕ} (F : Filled n f d l i) where
    pub filled_turn : {v : A} → i < n → v ≡ f i → Filled n f d (set l i v) (i + 1)
    filled_turn {v} h e = record {
      within = omega arith;
      sized = length-set l i v ∙ F.sized;
      passed = filled_next f d l i v (omega (arith, F.sized)) e F.passed;
    }

    pub filled_whole : n ≤ i → l ≡ listed n f
    filled_whole h = filled_ended n i f d l h F.sized F.passed
