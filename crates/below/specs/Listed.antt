-- Lists made from the numbers below n.
use Rattle.std.specs.Prelude.{List, [], ◌∷◌, ℕ, zero, suc}

-- the values at the numbers below n, in front of a list
unfoldable pub listed_onto : {A : Type 0} → ℕ → (ℕ → A) → List A → List A
listed_onto zero f l = l
listed_onto (suc n) f l = listed_onto n f (f n ∷ l)

-- the values at the numbers below n, in their order
unfoldable pub listed : {A : Type 0} → ℕ → (ℕ → A) → List A
listed n f = listed_onto n f []
