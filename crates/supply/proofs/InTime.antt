-- The invariant of the budget theorem: all that is due now at a row's level is done in time. It holds of a fresh state, and every event keeps it.
use mathlib.Core.Path.{◌≡◌, refl, ◌∙◌}
use mathlib.Core.Logic.{◌⊎◌, inl, inr}
use mathlib.Core.Bool.{Bool, true, false, ◌&&◌, and-eq-true_iff}
use Prim.Native.Nat.{ℕ, ◌+◌, ◌-◌, ◌*◌, ◌≤◌, ◌<◌}
use native.Mathlib.Nat.{le_refl}
use native.Mathlib.Omega.{arith}
use lib.Dec.{ltb}
use borrow.Author.Tests.{ltb-true, ltb-false}
use Rattle.below.specs.Below.{any}
use Rattle.below.specs.Quotient.{rounded_up}
use Rattle.below.proofs.Search.{any_true, any_false}
use Rattle.supply.specs.System.{System}
use Rattle.supply.specs.Assumed.{Assumed, Fresh, Pressed, at_least_as_high, sum_high, charge}
use Rattle.supply.proofs.High.{self_high, high_rises, high_at, now_or_later, charge_left, one_less}
use Rattle.supply.proofs.Most.{most, Anew, empty, full, most_one, most_anew, most_tick}

-- there is a number of ticks, inside the period of s and before its refill if s is busy, that is enough for what holds s back and for all that the
-- rows at least as high can be charged in them
pub record InTime (S : System) (σ : S.State) (s : ℕ) : Type 0 where
  pub within : ℕ
  pub ahead : 0 < within
  pub in_period : within ≤ S.period s
  pub before_refill : 0 < S.left σ s → within ≤ S.refill σ s
  pub fits : S.strict σ s + sum_high S s (most S σ within) ≤ within

-- no row at least as high as s has budget left
Unpressed : (S : System) → S.State → ℕ → Type 0
Unpressed S σ s = (h : ℕ) → h < S.rows → at_least_as_high S s h ≡ true → S.left σ h ≡ 0

-- the two cases of every step
pressed_or_not : (S : System) (σ : S.State) (s : ℕ) → Pressed S σ s ⊎ Unpressed S σ s
unfolding Unpressed
pressed_or_not S σ s = go (any S.rows busy) refl
  where
    busy : ℕ → Bool
    busy h = at_least_as_high S s h && ltb 0 (S.left σ h)

    go : (b : Bool) → any S.rows busy ≡ b → Pressed S σ s ⊎ Unpressed S σ s
    go true q =
        let w = any_true S.rows busy q in
        let v = (and-eq-true_iff (at_least_as_high S s w.at) (ltb 0 (S.left σ w.at))).0 w.passes in
        inl (record { row = w.at; there = w.there; high = v.0; busy = ltb-true 0 (S.left σ w.at) v.1 })
    go false q = inr λ h r v. omega (arith, ltb-false 0 (S.left σ h) (rw v at (any_false S.rows busy q h r)))

module _ (S : System) (A : Assumed S) (σ : S.State) (legal : S.Legal σ) (s : ℕ) (r : s < S.rows) where
  -- where no row at least as high has anything over from before, admission says that one period of s is enough
  pub in_time_anew : ((h : ℕ) → h < S.rows → at_least_as_high S s h ≡ true → Anew S σ h) → InTime S σ s
  in_time_anew anew = record {
    within = S.period s;
    ahead = A.period_whole s r;
    in_period = le_refl (S.period s);
    before_refill = whole (anew s r (self_high S s));
    fits = omega (arith, A.admitted σ legal s r, due);
  }
    where
      due : sum_high S s (most S σ (S.period s)) ≤ sum_high S s (λ h. S.budget h * rounded_up (S.period s) (S.period h))
      due = high_rises S s _ _ (λ h u v. most_anew S A σ legal h u (anew h u v) (S.period s) (A.period_whole s r))

      whole : Anew S σ s → 0 < S.left σ s → S.period s ≤ S.refill σ s
      whole (empty a) b = omega arith
      whole (full a q) b = omega arith

-- so it is where a run starts
pub in_time_fresh : (S : System) → Assumed S → (σ : S.State) → Fresh S σ → (s : ℕ) → s < S.rows → InTime S σ s
in_time_fresh S A σ f s r = in_time_anew S A σ f.legal s r (λ h u v. full (f.full h u) (f.whole h u))

module _ (S : System) (A : Assumed S) (σ : S.State) (legal : S.Legal σ) (s : ℕ) (r : s < S.rows) (e : S.Event) where
  -- a tick that takes all that a row has left, or more, leaves it with nothing over from before
  anew_tick : S.tick e ≡ true → (h : ℕ) → h < S.rows → S.left σ h ≤ charge S σ e h → Anew S (S.next σ e) h
  anew_tick t h u l = go (now_or_later S A σ legal h u)
    where
      go : (S.refill σ h ≡ 1) ⊎ (1 < S.refill σ h) → Anew S (S.next σ e) h
      go (inl v) = full (A.full_left σ e legal t h u v) (A.full_refill σ e legal t h u v)
      go (inr v) = empty (omega (arith, A.tick_left σ e legal t h u v))

  -- with one tick to do it in, the tick takes all that the rows at least as high have left
  last_tick : S.tick e ≡ true → Pressed S σ s → S.strict σ s + sum_high S s (most S σ 1) ≤ 1
      → (h : ℕ) → h < S.rows → at_least_as_high S s h ≡ true → S.left σ h ≤ charge S σ e h
  last_tick t p fits h u v = omega (arith, one_less S A σ e legal t s r p over (S.left σ) taken, left_most, high_at S s over h u v)
    where
      over : ℕ → ℕ
      over k = S.left σ k - charge S σ e k

      taken : (k : ℕ) → k < S.rows → over k + charge S σ e k ≤ S.left σ k
      taken k w = omega (arith, charge_left S A σ e legal t k w)

      left_most : sum_high S s (S.left σ) ≤ sum_high S s (most S σ 1)
      left_most = high_rises S s _ _ (λ k w x. omega (arith, most_one S A σ legal k w))

  -- an event that is no tick keeps the number of ticks
  keep_still : S.tick e ≡ false → Pressed S σ s → InTime S σ s → InTime S (S.next σ e) s
  unfolding most
  keep_still t p n = record {
    within = n.within;
    ahead = n.ahead;
    in_period = n.in_period;
    before_refill = λ b. rw (A.still_refill σ e legal t s r) (n.before_refill (rw (A.still_left σ e legal t s r) at b));
    fits = omega (arith, n.fits, A.strict_kept σ e legal s r p, same);
  }
    where
      same : sum_high S s (most S (S.next σ e) n.within) ≤ sum_high S s (most S σ n.within)
      same = high_rises S s _ _ (λ h u v. rw (A.still_left σ e legal t h u, A.still_refill σ e legal t h u) (le_refl _))

  -- a tick with ticks to spare takes one of them
  keep_tick : S.tick e ≡ true → Pressed S σ s → (n : InTime S σ s) → 1 < n.within → InTime S (S.next σ e) s
  keep_tick t p n l = record {
    within = n.within - 1;
    ahead = omega arith;
    in_period = omega arith;
    before_refill = go (now_or_later S A σ legal s r);
    fits = omega (arith, n.fits, one_less S A σ e legal t s r p (most S (S.next σ e) (n.within - 1)) (most S σ n.within) (λ h u. most_tick S A σ legal h u e t n.within l));
  }
    where
      go : (S.refill σ s ≡ 1) ⊎ (1 < S.refill σ s) → 0 < S.left (S.next σ e) s → n.within - 1 ≤ S.refill (S.next σ e) s
      go (inl v) b = omega (arith, n.in_period, A.full_refill σ e legal t s r v)
      go (inr v) b =
          omega
          (arith, n.before_refill (omega (arith, A.tick_left σ e legal t s r v)), A.tick_refill σ e legal t s r v)

  -- every event keeps the invariant
  pub in_time_next : InTime S σ s → InTime S (S.next σ e) s
  unfolding Unpressed
  in_time_next n = go (S.tick e) refl (pressed_or_not S σ s)
    where
      next_anew : ((h : ℕ) → h < S.rows → at_least_as_high S s h ≡ true → Anew S (S.next σ e) h) → InTime S (S.next σ e) s
      next_anew = in_time_anew S A (S.next σ e) (A.legal_next σ e legal) s r

      spare : S.tick e ≡ true → Pressed S σ s → (b : Bool) → ltb 1 n.within ≡ b → InTime S (S.next σ e) s
      spare t p true q = keep_tick t p n (ltb-true 1 n.within q)
      spare t p false q =
          let one : n.within ≡ 1 = omega (arith, ltb-false 1 n.within q, n.ahead) in
          next_anew λ h u v. anew_tick t h u (last_tick t p (rw one at n.fits) h u v)

      go : (b : Bool) → S.tick e ≡ b → Pressed S σ s ⊎ Unpressed S σ s → InTime S (S.next σ e) s
      go false t (inl p) = keep_still t p n
      go false t (inr z) = next_anew λ h u v. empty (A.still_left σ e legal t h u ∙ z h u v)
      go true t (inl p) = spare t p (ltb 1 n.within) refl
      go true t (inr z) = next_anew λ h u v. anew_tick t h u (omega (arith, z h u v))

  -- at the last tick of its period a row has nothing left but what the tick takes
  pub last_charge : InTime S σ s → S.tick e ≡ true → S.refill σ s ≡ 1 → S.left σ s ≡ charge S σ e s
  last_charge n t q = go (ltb 0 (S.left σ s)) refl
    where
      go : (b : Bool) → ltb 0 (S.left σ s) ≡ b → S.left σ s ≡ charge S σ e s
      go true w =
          let busy = ltb-true 0 (S.left σ s) w in
          let one : n.within ≡ 1 = omega (arith, n.ahead, n.before_refill busy) in
          let p : Pressed S σ s = record { row = s; there = r; high = self_high S s; busy = busy } in
          omega (arith, last_tick t p (rw one at n.fits) s r (self_high S s), charge_left S A σ e legal t s r)
      go false w = omega (arith, ltb-false 0 (S.left σ s) w, charge_left S A σ e legal t s r)
