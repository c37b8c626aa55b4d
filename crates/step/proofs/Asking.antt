-- "Events": the first refusal of a row that applies is what a search over the row finds.
use Rattle.std.proofs.Common.{◌≡◌, refl, ap, ◌∙◌, ℕ, ◌<◌, List, [], ◌∷◌, Bool, true, false, cond, arith}
use Rattle.std.specs.Prelude.{Option, Some, None}
use Rattle.std.specs.Option.{option_map}
use Rattle.std.specs.List.{find}
use Rattle.step.specs.declared.order.Refusal.{Refusal}
use Rattle.step.specs.declared.order.Refusal.TheVariants.{NoSuchRow, NotIdle, NotRunning, NotDeclared, HoldsAlready, NotLast, StillHolding, FifthHeld}
use Rattle.step.specs.Refusals.{first_refusal}
use Rattle.step.specs.Refused.{refusal_number, numbers_of, refused_number}

own_value : (r : Option Refusal) → r ≡ option_map (λ x. x) r
own_value None = refl
own_value (Some n) = refl

module _ (f : ℕ → Bool) where
  found_first : (xs : List Refusal) → refused_number (find (λ x. f (refusal_number x)) xs) ≡ first_refusal f (numbers_of xs)
  unfolding first_refusal
  found_first [] = refl
  found_first (x ∷ xs) = go (found_first xs) (f (refusal_number x))
    where
      go : refused_number (find (λ x. f (refusal_number x)) xs) ≡ first_refusal f (numbers_of xs)
          → (b : Bool) → refused_number (cond b (Some x) (find (λ x. f (refusal_number x)) xs)) ≡ elim b [ true ↦ refusal_number x | false ↦ first_refusal f (numbers_of xs) ]
      go rest true = refl
      go rest false = rest

  pub refusal_found : (xs : List Refusal) (r : Option Refusal) → option_map (λ x. x) r ≡ find (λ x. f (refusal_number x)) xs → refused_number r ≡ first_refusal f (numbers_of xs)
  refusal_found xs r e = ap refused_number (own_value r ∙ e) ∙ found_first xs

-- no refusal has the number of none
pub number_some : (x : Refusal) → 0 < refusal_number x
number_some NoSuchRow = omega arith
number_some NotIdle = omega arith
number_some NotRunning = omega arith
number_some NotDeclared = omega arith
number_some HoldsAlready = omega arith
number_some NotLast = omega arith
number_some StillHolding = omega arith
number_some FifthHeld = omega arith
