-- A test of every row, present or absent, taken apart: what is asked of all rows, and what is asked of the present ones besides.
use mathlib.Core.Path.{◌≡◌, refl, sym}
use mathlib.Core.Bool.{Bool, true, false, ◌&&◌, true≢false}
use Prim.Native.Nat.{ℕ, ◌≤◌}
use native.Mathlib.Nat.{lt_of_lt_of_le}
use lib.Dec.{leb, ltb}
use borrow.Author.Tests.{ltb-true, lt-ltb}
use Rattle.below.specs.Below.{all}
use Rattle.below.proofs.Tests.{and_left, and_right, and_of, same_truth}
use Rattle.below.proofs.Search.{all_at, all_of}
use Rattle.legal.specs.Legal.{implies}

-- one row: a is that it is present, d that it is absent
module _ (a b c d e : Bool) where
  abbrev whole : Bool
  whole = implies a (b && c) && implies d e

  abbrev part : Bool
  part = implies a b && implies d e

split_part : (a b c d e : Bool) → whole a b c d e ≡ true → part a b c d e ≡ true
unfolding implies
split_part false b c d e q = q
split_part true true c d e q = and_right c (implies d e) q
split_part true false c d e q = q

split_rest : (a b c d e : Bool) → whole a b c d e ≡ true → a ≡ true → c ≡ true
unfolding implies
split_rest false b c d e q h = absurd (true≢false (sym h))
split_rest true true c d e q h = and_left c (implies d e) q
split_rest true false c d e q h = absurd (true≢false (sym q))

split_joined : (a b c d e : Bool) → part a b c d e ≡ true → (a ≡ true → c ≡ true) → whole a b c d e ≡ true
unfolding implies
split_joined false b c d e q f = q
split_joined true true c d e q f = and_of c (implies d e) (f refl) q
split_joined true false c d e q f = q

-- all rows
module _ (m n : ℕ) (b c e : ℕ → Bool) (l : n ≤ m) where
  pub present_rest : all m (λ i. implies (ltb i n) (b i && c i) && implies (leb n i) (e i))
      ≡ (all m (λ i. implies (ltb i n) (b i) && implies (leb n i) (e i)) && all n c)
  present_rest = same_truth (all m each) (all m some && all n c)
      (λ q. and_of (all m some) (all n c)
      (all_of m some (λ i h. split_part (ltb i n) (b i) (c i) (leb n i) (e i) (all_at m each q i h)))
      (all_of n c (λ i h. split_rest (ltb i n) (b i) (c i) (leb n i) (e i) (all_at m each q i (lt_of_lt_of_le h l)) (lt-ltb i n h))))
      (λ q. all_of m each (λ i h. split_joined (ltb i n) (b i) (c i) (leb n i) (e i)
      (all_at m some (and_left (all m some) (all n c) q) i h)
      (λ t. all_at n c (and_right (all m some) (all n c) q) i (ltb-true i n t))))
    where
      each : ℕ → Bool
      each i = implies (ltb i n) (b i && c i) && implies (leb n i) (e i)

      some : ℕ → Bool
      some i = implies (ltb i n) (b i) && implies (leb n i) (e i)
