-- Tests that are joined, negated or told apart: what the answer says, and back.
use Rattle.std.proofs.Common.{◌≡◌, refl, sym, ◌∙◌, ◌⊎◌, inl, inr, Bool, true, false, not, ◌&&◌, ◌||◌, true≢false}
use mathlib.Core.Bool.{false≢true}

-- a test passes or fails
pub decided : (a : Bool) → (a ≡ true) ⊎ (a ≡ false)
decided true = inl refl
decided false = inr refl

-- and never both
pub clash : {a : Bool} → a ≡ true → a ≡ false → ⊥
clash t f = true≢false (sym t ∙ f)

-- a test that cannot pass fails
pub fails : (a : Bool) → (a ≡ true → ⊥) → a ≡ false
fails true h = absurd (h refl)
fails false h = refl

-- what fails passes negated
pub not_of : (a : Bool) → a ≡ false → not a ≡ true
not_of true e = absurd (true≢false e)
not_of false e = refl

-- both

pub and_left : (a b : Bool) → (a && b) ≡ true → a ≡ true
and_left true b e = refl
and_left false b e = absurd (false≢true e)

pub and_right : (a b : Bool) → (a && b) ≡ true → b ≡ true
and_right true b e = e
and_right false b e = absurd (false≢true e)

pub and_of : (a b : Bool) → a ≡ true → b ≡ true → (a && b) ≡ true
and_of true b p q = q
and_of false b p q = absurd (false≢true p)

-- what is joined by &&, for a search that takes it apart
pub ruleset conjuncts = (and_left, and_right)

-- one or the other

pub or_cases : (a b : Bool) → (a || b) ≡ true → (a ≡ true) ⊎ (b ≡ true)
or_cases true b e = inl refl
or_cases false b e = inr e

pub or_left : (a b : Bool) → a ≡ true → (a || b) ≡ true
or_left true b e = refl
or_left false b e = absurd (false≢true e)

pub or_right : (a b : Bool) → b ≡ true → (a || b) ≡ true
or_right true b e = refl
or_right false b e = e

-- neither

pub or_no_left : (a b : Bool) → (a || b) ≡ false → a ≡ false
or_no_left true b e = absurd (true≢false e)
or_no_left false b e = refl

pub or_no_right : (a b : Bool) → (a || b) ≡ false → b ≡ false
or_no_right true b e = absurd (true≢false e)
or_no_right false b e = e

-- the second follows where the first fails
pub or_else : (a b : Bool) → (a ≡ false → b ≡ true) → (a || b) ≡ true
or_else true b f = refl
or_else false b f = f refl

-- the second, where the first cannot be
pub or_second : (a b : Bool) → (a || b) ≡ true → a ≡ false → b ≡ true
or_second true b e h = absurd (true≢false h)
or_second false b e h = e

-- two tests with the same truth are the same
pub same_truth : (a b : Bool) → (a ≡ true → b ≡ true) → (b ≡ true → a ≡ true) → a ≡ b
same_truth true b f g = sym (f refl)
same_truth false true f g = g refl
same_truth false false f g = refl
