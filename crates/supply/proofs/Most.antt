-- What a row can be charged at most in the ticks to come, and the facts about it that the argument uses.
use mathlib.Core.Path.{◌≡◌}
use mathlib.Core.Bool.{true}
use mathlib.Core.Logic.{◌⊎◌, inl, inr}
use Prim.Native.Nat.{ℕ, ◌+◌, ◌-◌, ◌*◌, ◌≤◌, ◌<◌}
use native.Mathlib.Nat.{mul-le-mul_left}
use native.Mathlib.Omega.{arith}
use Rattle.below.specs.Quotient.{rounded_up}
use Rattle.below.proofs.Quotient.{rounded_up_zero, rounded_up_next, rounded_up_rises}
use Rattle.supply.specs.System.{System}
use Rattle.supply.specs.Assumed.{Assumed, charge}
use Rattle.supply.proofs.High.{now_or_later, charge_left}

-- what row h can be charged in the next n ticks at most, n from 1 on: what it has left, and its budget for each refill before the last of them
unfoldable pub most : (S : System) → S.State → ℕ → ℕ → ℕ
most S σ n h = S.left σ h + S.budget h * rounded_up (n - S.refill σ h) (S.period h)

-- a row that has nothing over from before: no budget left, or all of it and a whole period to go
pub data Anew (S : System) (σ : S.State) (h : ℕ) : Type 0 where
  empty : S.left σ h ≡ 0 → Anew S σ h
  full : S.left σ h ≡ S.budget h → S.refill σ h ≡ S.period h → Anew S σ h

module _ (S : System) (A : Assumed S) (σ : S.State) (legal : S.Legal σ) (h : ℕ) (there : h < S.rows) where
  -- one tick takes from what is left
  pub most_one : most S σ 1 h ≡ S.left σ h
  unfolding most
  most_one =
      let z : 1 - S.refill σ h ≡ 0 = omega (arith, A.refill_ahead σ legal h there) in
      rw (z, rounded_up_zero (S.period h) (A.period_whole h there)) (omega arith)

  -- a row with nothing over from before wants its budget once a period
  pub most_anew : Anew S σ h → (n : ℕ) → 0 < n → most S σ n h ≤ S.budget h * rounded_up n (S.period h)
  unfolding most
  most_anew (empty a) n u =
      omega
      (arith, mul-le-mul_left (S.budget h) (rounded_up_rises (n - S.refill σ h) n (S.period h) (A.period_whole h there) (omega arith)))
  most_anew (full a b) n u = rw (b, rounded_up_next n (S.period h) (A.period_whole h there) u) (omega arith)

  -- a tick takes its charge, and the ticks after it the rest
  pub most_tick : (e : S.Event) → S.tick e ≡ true → (n : ℕ) → 1 < n → most S (S.next σ e) (n - 1) h + charge S σ e h ≤ most S σ n h
  unfolding most
  most_tick e t n u = go (now_or_later S A σ legal h there)
    where
      go : (S.refill σ h ≡ 1) ⊎ (1 < S.refill σ h) → most S (S.next σ e) (n - 1) h + charge S σ e h ≤ most S σ n h
      go (inl v) =
          rw (
            A.full_left σ e legal t h there v,
            A.full_refill σ e legal t h there v,
            v,
            rounded_up_next (n - 1) (S.period h) (A.period_whole h there) (omega arith),
          )
          (omega (arith, charge_left S A σ e legal t h there))
      go (inr v) =
          let z : n - 1 - S.refill (S.next σ e) h ≡ n - S.refill σ h = omega (arith, A.tick_refill σ e legal t h there v) in
          rw z (omega (arith, A.tick_left σ e legal t h there v))
