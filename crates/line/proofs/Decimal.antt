-- Laws of a number in decimal digits: a number below 10 is one digit, any other the digits of its tenth and then its last digit; and how many.
use Rattle.std.proofs.Common.{◌≡◌, ℕ, zero, suc, ◌+◌, ◌/◌, ◌%◌, ◌^◌, ◌≤◌, ◌<◌, Bool, true, false, List, [], ◌∷◌, ◌++◌, length, length-append, append_assoc, refl, sym, ◌∙◌, not-suc-le-zero, arith}
use Rattle.std.specs.Prelude.{ltb}
use native.Mathlib.Nat.{pow-succ'}
use borrow.Author.Tests.{lt-ltb, le-ltb, ltb-true, ltb-false}
use Rattle.text.specs.Numbers.{decimal, decimal_onto}

module _ (d n : ℕ) (bs : List ℕ) where
  onto_small : n < 10 → decimal_onto (suc d) n bs ≡ (48 + n) ∷ bs
  unfolding decimal_onto
  onto_small h = rw (decimal_onto, lt-ltb n 10 h)

  onto_large : 10 ≤ n → decimal_onto (suc d) n bs ≡ decimal_onto d (n / 10) ((48 + n % 10) ∷ bs)
  unfolding decimal_onto
  onto_large h = rw (decimal_onto, le-ltb n 10 h)

-- the digits stand in front of the bytes
onto : (d n : ℕ) (bs : List ℕ) → decimal_onto d n bs ≡ decimal_onto d n [] ++ bs
unfolding decimal_onto
onto zero n bs = refl
onto (suc d) n bs = go (ltb n 10) (onto d (n / 10))
  where
    go : (b : Bool) → ((cs : List ℕ) → decimal_onto d (n / 10) cs ≡ decimal_onto d (n / 10) [] ++ cs)
        → elim b [ true ↦ (48 + n) ∷ bs | false ↦ decimal_onto d (n / 10) ((48 + n % 10) ∷ bs) ]
        ≡ elim b [ true ↦ (48 + n) ∷ [] | false ↦ decimal_onto d (n / 10) ((48 + n % 10) ∷ []) ] ++ bs
    go true ih = refl
    go false ih = ih ((48 + n % 10) ∷ bs) ∙ rw (ih ((48 + n % 10) ∷ []), append_assoc)

-- any bound on how many digits that is large enough serves
enough : (d e n : ℕ) (bs : List ℕ) → n < d → n < e → decimal_onto d n bs ≡ decimal_onto e n bs
enough zero e n bs h l = absurd (not-suc-le-zero h)
enough (suc d) zero n bs h l = absurd (not-suc-le-zero l)
enough (suc d) (suc e) n bs h l = go (ltb n 10) refl (enough d e (n / 10) ((48 + n % 10) ∷ bs))
  where
    go : (b : Bool) → ltb n 10 ≡ b
        → (n / 10 < d → n / 10 < e → decimal_onto d (n / 10) ((48 + n % 10) ∷ bs) ≡ decimal_onto e (n / 10) ((48 + n % 10) ∷ bs))
        → decimal_onto (suc d) n bs ≡ decimal_onto (suc e) n bs
    go true t ih = onto_small d n bs (ltb-true n 10 t) ∙ sym (onto_small e n bs (ltb-true n 10 t))
    go false t ih =
        let m = ltb-false n 10 t in
        onto_large d n bs m ∙ ih (omega arith) (omega arith) ∙ sym (onto_large e n bs m)

pub decimal_small : (n : ℕ) → n < 10 → decimal n ≡ (48 + n) ∷ []
unfolding decimal
decimal_small n h = onto_small n n [] h

pub decimal_large : (n : ℕ) → 10 ≤ n → decimal n ≡ decimal (n / 10) ++ ((48 + n % 10) ∷ [])
unfolding decimal
decimal_large n h =
    onto_large n n [] h ∙ enough n (suc (n / 10)) (n / 10) _ (omega arith) (omega arith) ∙ onto (suc (n / 10)) (n / 10) _

-- a number of two digits or more has one digit more than its tenth
pub decimal_longer : (n : ℕ) → 10 ≤ n → length (decimal n) ≡ length (decimal (n / 10)) + 1
decimal_longer n h = rw (decimal_large n h, length-append)

pub decimal_one : (n : ℕ) → n < 10 → length (decimal n) ≡ 1
decimal_one n h = rw (decimal_small n h)

-- at least one digit
pub decimal_some : (n : ℕ) → 1 ≤ length (decimal n)
decimal_some n = go (ltb n 10) refl
  where
    go : (b : Bool) → ltb n 10 ≡ b → 1 ≤ length (decimal n)
    go true t = omega (arith, decimal_one n (ltb-true n 10 t))
    go false t = omega (arith, decimal_longer n (ltb-false n 10 t))

-- as many digits as it takes
pub decimal_length : (k n : ℕ) → n < 10 ^ suc k → length (decimal n) ≤ suc k
decimal_length zero n h = omega (arith, decimal_one n h)
decimal_length (suc k) n h = go (ltb n 10) refl (decimal_length k (n / 10))
  where
    go : (b : Bool) → ltb n 10 ≡ b → (n / 10 < 10 ^ suc k → length (decimal (n / 10)) ≤ suc k) → length (decimal n) ≤ suc (suc k)
    go true t ih = omega (arith, decimal_one n (ltb-true n 10 t))
    go false t ih =
        let m = ltb-false n 10 t in
        let e = pow-succ' 10 (suc k) in
        omega (arith, decimal_longer n m, ih (omega arith))

-- how many the numbers of a type have
pub digits_u64 : (n : ℕ) → n < 18446744073709551616 → length (decimal n) ≤ 20
digits_u64 n h = decimal_length 19 n (omega arith)

pub digits_u32 : (n : ℕ) → n < 4294967296 → length (decimal n) ≤ 10
digits_u32 n h = decimal_length 9 n (omega arith)

pub digits_u16 : (n : ℕ) → n < 65536 → length (decimal n) ≤ 5
digits_u16 n h = decimal_length 4 n (omega arith)

pub digits_u8 : (n : ℕ) → n < 256 → length (decimal n) ≤ 3
digits_u8 n h = decimal_length 2 n (omega arith)

-- and the row of a task
pub digits_task : (n : ℕ) → n < 32 → length (decimal n) ≤ 2
digits_task n h = decimal_length 1 n (omega arith)

pub ruleset digit_counts = (digits_u64, digits_u32, digits_u16, digits_u8, digits_task)
