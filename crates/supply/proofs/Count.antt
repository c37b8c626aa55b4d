-- Counting the charges of a row up to its next refill: never more than it has left, and all of that once the refill is reached.
use mathlib.Core.Path.{◌≡◌, refl, sym, ap, ◌∙◌}
use mathlib.Core.Logic.{◌⊎◌, inl, inr}
use mathlib.Core.Bool.{Bool, true, false}
use mathlib.Core.List.{List, [], ◌∷◌, ◌++◌}
use Prim.Native.Nat.{ℕ, zero, suc, ◌≤◌, ◌<◌}
use native.Mathlib.Omega.{arith}
use lib.ListN.{length, take}
use Rattle.supply.specs.System.{System}
use Rattle.supply.specs.Assumed.{Assumed, charge}
use Rattle.supply.specs.Charges.{charges, count}
use Rattle.supply.proofs.High.{now_or_later, charge_left}
use Rattle.supply.proofs.InTime.{InTime, in_time_next, last_charge}

module _ (S : System) (σ : S.State) (e : S.Event) where
  -- what the first event of a run adds to the charges
  charges_still : (es : List S.Event) → S.tick e ≡ false → charges S σ (e ∷ es) ≡ charges S (S.next σ e) es
  unfolding charges
  charges_still es t = rw (t, charges)

  charges_tick : (es : List S.Event) → S.tick e ≡ true → charges S σ (e ∷ es) ≡ S.charged σ e ∷ charges S (S.next σ e) es
  unfolding charges
  charges_tick es t = rw (t, charges)

-- the state of a run at the start of a period of s
pub record Start (S : System) (s : ℕ) (σ : S.State) : Type 0 where
  pub legal : S.Legal σ
  pub in_time : InTime S σ s
  pub full : S.left σ s ≡ S.budget s
  pub whole : S.refill σ s ≡ S.period s

-- a run that reaches the refill of s: the charges up to it, which take all that s had left, and the run that goes on from there
pub record Turn (S : System) (s : ℕ) (σ : S.State) (es : List S.Event) : Type 0 where
  pub head : List ℕ
  pub state : S.State
  pub events : List S.Event
  pub parts : charges S σ es ≡ head ++ charges S state events
  pub long : length head ≡ S.refill σ s
  pub all_left : count s head ≡ S.left σ s
  pub start : Start S s state

module _ (S : System) (A : Assumed S) (s : ℕ) (r : s < S.rows) where
  -- up to the refill, no more than s has left
  pub count_most : (es : List S.Event) (σ : S.State) → S.Legal σ → (j : ℕ) → j ≤ S.refill σ s → count s (take j (charges S σ es)) ≤ S.left σ s
  unfolding charges count charge
  count_most [] σ l zero h = omega arith
  count_most [] σ l (suc j) h = omega arith
  count_most (e ∷ es) σ l j h = go (S.tick e) refl j h (count_most es (S.next σ e) (A.legal_next σ e l))
    where
      rest : List ℕ
      rest = charges S (S.next σ e) es

      go : (b : Bool) → S.tick e ≡ b → (j : ℕ) → j ≤ S.refill σ s
          → ((k : ℕ) → k ≤ S.refill (S.next σ e) s → count s (take k rest) ≤ S.left (S.next σ e) s)
          → count s (take j (charges S σ (e ∷ es))) ≤ S.left σ s
      go false t j h ih =
          rw (charges_still S σ e es t, ← A.still_left σ e l t s r) (ih j (rw (A.still_refill σ e l t s r) h))
      go true t zero h ih = omega arith
      go true t (suc j) h ih = rw (charges_tick S σ e es t) (step (now_or_later S A σ l s r))
        where
          step : (S.refill σ s ≡ 1) ⊎ (1 < S.refill σ s) → count s (S.charged σ e ∷ take j rest) ≤ S.left σ s
          step (inl v) =
              let z : j ≡ 0 = omega arith in
              rw z (omega (arith, charge_left S A σ e l t s r))
          step (inr v) = omega (arith, ih j (omega (arith, A.tick_refill σ e l t s r v)), A.tick_left σ e l t s r v)

  -- a run that is long enough reaches the refill
  pub turn : (es : List S.Event) (σ : S.State) → S.Legal σ → InTime S σ s → S.refill σ s ≤ length (charges S σ es) → Turn S s σ es
  unfolding charges count charge
  turn [] σ l n h = absurd (omega (arith, A.refill_ahead σ l s r))
  turn (e ∷ es) σ l n h = go (S.tick e) refl (turn es (S.next σ e) l' n')
    where
      l' : S.Legal (S.next σ e)
      l' = A.legal_next σ e l

      n' : InTime S (S.next σ e) s
      n' = in_time_next S A σ l s r e n

      go : (b : Bool) → S.tick e ≡ b → (S.refill (S.next σ e) s ≤ length (charges S (S.next σ e) es) → Turn S s (S.next σ e) es)
          → Turn S s σ (e ∷ es)
      go false t ih =
          let same = A.still_refill σ e l t s r in
          let w = ih (omega (arith, rw (charges_still S σ e es t) at h)) in
          record {
            head = w.head;
            state = w.state;
            events = w.events;
            parts = charges_still S σ e es t ∙ w.parts;
            long = w.long ∙ same;
            all_left = w.all_left ∙ A.still_left σ e l t s r;
            start = w.start;
          }
      go true t ih = step (now_or_later S A σ l s r)
        where
          step : (S.refill σ s ≡ 1) ⊎ (1 < S.refill σ s) → Turn S s σ (e ∷ es)
          step (inl v) = record {
            head = S.charged σ e ∷ [];
            state = S.next σ e;
            events = es;
            parts = charges_tick S σ e es t;
            long = sym v;
            all_left = omega (arith, last_charge S A σ l s r e n t v);
            start = record { legal = l'; in_time = n'; full = A.full_left σ e l t s r v; whole = A.full_refill σ e l t s r v };
          }
          step (inr v) =
              let one = A.tick_refill σ e l t s r v in
              let w = ih (omega (arith, rw (charges_tick S σ e es t) at h)) in
              record {
                head = S.charged σ e ∷ w.head;
                state = w.state;
                events = w.events;
                parts = charges_tick S σ e es t ∙ ap (λ (cs : List ℕ). S.charged σ e ∷ cs) w.parts;
                long = omega (arith, w.long);
                all_left = omega (arith, w.all_left, A.tick_left σ e l t s r v);
                start = w.start;
              }
