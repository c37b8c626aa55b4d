-- An entry of a list that is there is the same whatever is read past the end.
use Rattle.std.proofs.Common.{◌≡◌, refl, List, [], ◌∷◌, ℕ, zero, suc, ◌<◌, length, get_or}
use native.Mathlib.Nat.{not-suc-le-zero, le_of_suc-le-suc}

module _ {A : Type 0} where
  pub get_or_within : (l : List A) (i : ℕ) (a b : A) → i < length l → get_or l i a ≡ get_or l i b
  get_or_within [] i a b h = absurd (not-suc-le-zero h)
  get_or_within (x ∷ l) zero a b h = refl
  get_or_within (x ∷ l) (suc i) a b h = get_or_within l i a b (le_of_suc-le-suc h)
