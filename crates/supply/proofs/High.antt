-- Sums over the rows at least as high as s, and what one tick takes from them.
use mathlib.Core.Path.{◌≡◌, refl, sym}
use mathlib.Core.Logic.{◌⊎◌, inl, inr, ⊎_elim}
use mathlib.Core.Bool.{Bool, true, false, cond}
use Prim.Native.Nat.{ℕ, ◌+◌, ◌≤◌, ◌<◌}
use native.Mathlib.Nat.{le_refl, eq-or-lt_of_le}
use native.Mathlib.Omega.{arith}
use lib.Dec.{eqb}
use borrow.Author.Tests.{le-leb, eq-eqb, eqb-true}
use Rattle.below.proofs.Amounts.{sum_rises, sum_falls, sum_at}
use Rattle.supply.specs.System.{System}
use Rattle.supply.specs.Assumed.{Assumed, Pressed, at_least_as_high, sum_high, charge}

-- a value that counts only where the row is high
high_value : (b : Bool) (x y : ℕ) → (b ≡ true → x ≤ y) → cond b x 0 ≤ cond b y 0
high_value true x y l = l refl
high_value false x y l = omega arith

module _ (S : System) (s : ℕ) where
  -- s is one of them
  pub self_high : at_least_as_high S s s ≡ true
  unfolding at_least_as_high
  self_high = le-leb (S.level s) (S.level s) (le_refl (S.level s))

  -- the sum rises with the values of the high rows
  pub high_rises : (f g : ℕ → ℕ) → ((h : ℕ) → h < S.rows → at_least_as_high S s h ≡ true → f h ≤ g h) → sum_high S s f ≤ sum_high S s g
  unfolding sum_high
  high_rises f g l = sum_rises S.rows _ _ (λ h r. high_value (at_least_as_high S s h) (f h) (g h) (l h r))

  -- it falls by one where one high row's value does
  pub high_falls : (f g : ℕ → ℕ) (c : ℕ) → c < S.rows → at_least_as_high S s c ≡ true → f c + 1 ≤ g c
      → ((h : ℕ) → h < S.rows → f h ≤ g h) → sum_high S s f + 1 ≤ sum_high S s g
  unfolding sum_high
  high_falls f g c r t fall l =
      sum_falls S.rows _ _ 1 c r (rw t fall) (λ h u. high_value (at_least_as_high S s h) (f h) (g h) (λ v. l h u))

  -- a high row's value is at most the sum
  pub high_at : (f : ℕ → ℕ) (h : ℕ) → h < S.rows → at_least_as_high S s h ≡ true → f h ≤ sum_high S s f
  unfolding sum_high
  high_at f h r t = rw t at (sum_at S.rows (λ k. cond (at_least_as_high S s k) (f k) 0) h r)

-- the refill of a row comes with the next tick, or later
pub now_or_later : (S : System) → Assumed S → (σ : S.State) → S.Legal σ → (h : ℕ) → h < S.rows → (S.refill σ h ≡ 1) ⊎ (1 < S.refill σ h)
now_or_later S A σ legal h r = ⊎_elim (λ q. inl (sym q)) inr (eq-or-lt_of_le (A.refill_ahead σ legal h r))

module _ (S : System) (A : Assumed S) (σ : S.State) (e : S.Event) (legal : S.Legal σ) (ticks : S.tick e ≡ true) where
  -- the row charged is charged one
  pub charged_one : (h : ℕ) → S.charged σ e ≡ h → charge S σ e h ≡ 1
  unfolding charge
  charged_one h q = rw (eq-eqb (S.charged σ e) h q)

  -- a row is charged no more than it has left
  pub charge_left : (h : ℕ) → h < S.rows → charge S σ e h ≤ S.left σ h
  unfolding charge
  charge_left h r = go (eqb (S.charged σ e) h) refl
    where
      go : (b : Bool) → eqb (S.charged σ e) h ≡ b → cond b 1 0 ≤ S.left σ h
      go true q =
          let c = eqb-true (S.charged σ e) h q in
          rw c at (A.charged_busy σ e legal ticks (rw c r))
      go false q = omega arith

  -- while a row at least as high as s is busy, a tick takes one from what holds s back or from the rows at least as high:
  -- f is what these have to come after the tick, g before it
  pub one_less : (s : ℕ) → s < S.rows → Pressed S σ s → (f g : ℕ → ℕ) → ((h : ℕ) → h < S.rows → f h + charge S σ e h ≤ g h)
      → S.strict (S.next σ e) s + sum_high S s f + 1 ≤ S.strict σ s + sum_high S s g
  one_less s r p f g l = go (at_least_as_high S s c) refl
    where
      c : ℕ
      c = S.charged σ e

      there : c < S.rows
      there = A.busy_charged σ e legal ticks p.row p.there p.busy

      less : (h : ℕ) → h < S.rows → f h ≤ g h
      less h u = omega (arith, l h u)

      go : (b : Bool) → at_least_as_high S s c ≡ b → S.strict (S.next σ e) s + sum_high S s f + 1 ≤ S.strict σ s + sum_high S s g
      go true q = omega (arith, A.strict_kept σ e legal s r p, high_falls S s f g c there q (omega (arith, l c there, charged_one c refl)) less)
      go false q = omega (arith, A.strict_falls σ e legal s r p ticks there q, high_rises S s f g (λ h u v. less h u))
