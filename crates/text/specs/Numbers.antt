-- "The plan text": a number has 1 to 5 digits and no leading zero, 0 itself being one digit. And numbers as printed.
use Rattle.std.specs.Prelude.{Bool, true, false, not, ◌&&◌, ◌||◌, List, [], ◌∷◌, ℕ, zero, suc, ◌+◌, ◌-◌, ◌*◌, ◌/◌, ◌%◌, leb, ltb, eqb, length, get_or}
use Rattle.std.specs.Prelude.{Option, Some, None}
use Rattle.std.specs.Option.{option_map}

-- a digit is one of the bytes 48 to 57
unfoldable pub is_digit : ℕ → Bool
is_digit b = leb 48 b && leb b 57

-- every byte is a digit
unfoldable pub digits : List ℕ → Bool
digits [] = true
digits (b ∷ bs) = is_digit b && digits bs

-- 1 to 5 digits, the first of several not a zero
unfoldable pub is_number : List ℕ → Bool
is_number f = leb 1 (length f) && leb (length f) 5 && digits f && (eqb (length f) 1 || not (eqb (get_or f 0 0) 48))

-- the worth of a row of digits, behind n
unfoldable pub worth : List ℕ → ℕ → ℕ
worth [] n = n
worth (b ∷ bs) n = worth bs (10 * n + (b - 48))

-- the number that a field writes, if it writes one
unfoldable pub number : List ℕ → Option ℕ
number f = elim (is_number f) [ true ↦ Some (worth f 0) | false ↦ None ]

-- the numbers that some fields write, if each writes one
unfoldable pub numbers : List (List ℕ) → Option (List ℕ)
numbers [] = Some []
numbers (f ∷ fs) = elim (number f) [ None ↦ None | Some n ↦ option_map (λ ns. n ∷ ns) (numbers fs) ]

-- what is made of just as many numbers as wanted, or else the other
module _ {A : Type 0} (other : A) where
  -- no number
  unfoldable pub of_none : A → List ℕ → A
  of_none a [] = a
  of_none a (n ∷ ns) = other

  -- one number
  unfoldable pub of_one : (ℕ → A) → List ℕ → A
  of_one f [] = other
  of_one f (n ∷ []) = f n
  of_one f (n ∷ m ∷ ns) = other

  -- two numbers
  unfoldable pub of_two : (ℕ → ℕ → A) → List ℕ → A
  of_two f [] = other
  of_two f (n ∷ []) = other
  of_two f (n ∷ m ∷ []) = f n m
  of_two f (n ∷ m ∷ k ∷ ns) = other

  -- three numbers
  unfoldable pub of_three : (ℕ → ℕ → ℕ → A) → List ℕ → A
  of_three f [] = other
  of_three f (n ∷ []) = other
  of_three f (n ∷ m ∷ []) = other
  of_three f (n ∷ m ∷ k ∷ []) = f n m k
  of_three f (n ∷ m ∷ k ∷ l ∷ ns) = other

-- the digits of n, in front of some bytes; d bounds how many
unfoldable pub decimal_onto : ℕ → ℕ → List ℕ → List ℕ
decimal_onto zero n bs = bs
decimal_onto (suc d) n bs = elim (ltb n 10) [ true ↦ (48 + n) ∷ bs | false ↦ decimal_onto d (n / 10) ((48 + n % 10) ∷ bs) ]

-- n in decimal digits, with no leading zero
unfoldable pub decimal : ℕ → List ℕ
decimal n = decimal_onto (suc n) n []
