-- Laws of comparing two texts byte by byte.
use Rattle.std.proofs.Common.{◌≡◌, List, [], ◌∷◌, ℕ, suc, false, ◌&&◌, length, refl, ap}
use mathlib.Core.Bool.{and-false}
use lib.Pointwise.{pointwise}
use Rattle.std.specs.Prelude.{eqb}
use Rattle.text.specs.Bytes.{same}

-- texts of different lengths differ
pub same_lengths : (a b : List ℕ) → (length a ≡ length b → ⊥) → same a b ≡ false
unfolding same
same_lengths [] [] n = absurd (n refl)
same_lengths [] (y ∷ b) n = refl
same_lengths (x ∷ a) [] n = refl
same_lengths (x ∷ a) (y ∷ b) n = rw (same_lengths a b (λ e. n (ap suc e))) (and-false (eqb x y))

-- it is the equality of slices
pub same_slices : (a b : List ℕ) → same a b ≡ pointwise eqb a b
unfolding same
same_slices [] [] = refl
same_slices [] (y ∷ b) = refl
same_slices (x ∷ a) [] = refl
same_slices (x ∷ a) (y ∷ b) = ap (λ z. eqb x y && z) (same_slices a b)
