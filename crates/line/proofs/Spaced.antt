-- Laws of a printed line, from its last field to its first: the last stands in front of the line feed, each other in front of a space.
use Rattle.std.proofs.Common.{◌≡◌, ℕ, ◌+◌, ◌≤◌, List, [], ◌∷◌, ◌++◌, length, length-append, append_assoc, ◌∙◌, arith}
use Rattle.line.specs.Printed.{spaced}
use Rattle.line.specs.Before.{parted}

-- one more field in front
pub field_more : (f g : List ℕ) (fs : List (List ℕ)) {t u : List ℕ} → t ≡ spaced (g ∷ fs) → u ≡ parted f ++ t → u ≡ spaced (f ∷ g ∷ fs)
unfolding spaced parted
field_more f g fs a b = b ∙ rw (a, append_assoc)

pub field_last : (f : List ℕ) {t u : List ℕ} → t ≡ 10 ∷ [] → u ≡ f ++ t → u ≡ spaced (f ∷ [])
unfolding spaced
field_last f a b = b ∙ rw a

-- a line has its line feed at least
pub spaced_some : (fs : List (List ℕ)) → 1 ≤ length (spaced fs)
unfolding spaced
spaced_some [] = omega arith
spaced_some (f ∷ []) = rw length-append (omega arith)
spaced_some (f ∷ g ∷ fs) = rw length-append (omega arith)

-- its length: a field and what stands behind it, and the last field
pub more_length : (f g : List ℕ) (fs : List (List ℕ)) → length (spaced (f ∷ g ∷ fs)) ≡ length f + 1 + length (spaced (g ∷ fs))
unfolding spaced
more_length f g fs = rw length-append (omega arith)

pub last_length : (f : List ℕ) → length (spaced (f ∷ [])) ≡ length f + 1
unfolding spaced
last_length f = length-append f (10 ∷ [])
