-- A system that meets the assumptions, so that they are not empty: two rows, six states, and a row of larger level that holds the other back.
-- Row 0 gets one tick in two, row 1 two ticks in four. A lock is a tick after which row 1, if it was charged with two left, goes before row 0 for one tick.
use mathlib.Core.Path.{◌≡◌, refl, ap}
use mathlib.Core.Bool.{Bool, true, false, not, ◌&&◌, and-eq-true_iff, false≢true}
use mathlib.Core.List.{List, [], ◌∷◌}
use Prim.Native.Nat.{ℕ, ◌+◌, ◌*◌, ◌<◌}
use lib.Dec.{leb, ltb, eqb, lit<, lit≤}
use lib.ListN.{get_or}
use borrow.Author.Tests.{leb-true, ltb-true, eqb-true, lt-ltb, eq-eqb}
use Rattle.below.specs.Below.{all, any, sum}
use Rattle.below.specs.Quotient.{rounded_up}
use Rattle.below.proofs.Search.{all_at, any_of}
use Rattle.supply.specs.System.{System}
use Rattle.supply.specs.Assumed.{Assumed, Fresh, Pressed, at_least_as_high, sum_high, charge}
use Rattle.supply.specs.Charges.{charges, count, period_of, Exact}
use Rattle.supply.proofs.Theorem.{exact}

pub data Event : Type 0 where
  wait tick lock : Event

-- a line a state: left of both rows, refill of both, strict of both, the row charged, the state after a tick and after a lock
abbrev states : List (List ℕ)
states =
    (1 ∷ 2 ∷ 2 ∷ 4 ∷ 0 ∷ 0 ∷ 0 ∷ 1 ∷ 1 ∷ [])
    ∷ (0 ∷ 2 ∷ 1 ∷ 3 ∷ 0 ∷ 0 ∷ 1 ∷ 2 ∷ 4 ∷ [])
    ∷ (1 ∷ 1 ∷ 2 ∷ 2 ∷ 0 ∷ 0 ∷ 0 ∷ 3 ∷ 3 ∷ [])
    ∷ (0 ∷ 1 ∷ 1 ∷ 1 ∷ 0 ∷ 0 ∷ 1 ∷ 0 ∷ 0 ∷ [])
    ∷ (1 ∷ 1 ∷ 2 ∷ 2 ∷ 1 ∷ 0 ∷ 1 ∷ 5 ∷ 5 ∷ [])
    ∷ (1 ∷ 0 ∷ 1 ∷ 1 ∷ 0 ∷ 0 ∷ 0 ∷ 0 ∷ 0 ∷ [])
    ∷ []

abbrev entry : ℕ → ℕ → ℕ
entry σ column = get_or (get_or states σ []) column 0

abbrev after : ℕ → Event → ℕ
after σ wait = σ
after σ tick = entry σ 7
after σ lock = entry σ 8

abbrev ticks : Event → Bool
ticks wait = false
ticks tick = true
ticks lock = true

abbrev pub tiny : System
tiny = record {
  State = ℕ;
  Event = Event;
  Legal = λ σ. σ < 6;
  next = after;
  tick = ticks;
  charged = λ σ e. entry σ 6;
  rows = 2;
  level = λ h. h;
  period = λ h. get_or (2 ∷ 4 ∷ []) h 1;
  budget = λ h. get_or (1 ∷ 2 ∷ []) h 0;
  left = λ σ h. entry σ h;
  refill = λ σ h. entry σ (2 + h);
  strict = λ σ h. entry σ (4 + h);
}

-- a test of every legal state, event and row
abbrev every : (ℕ → Event → ℕ → Bool) → Bool
every p = all 6 (λ σ. all 2 (λ h. p σ wait h && p σ tick h && p σ lock h))

every_at : (p : ℕ → Event → ℕ → Bool) → every p ≡ true → (σ : ℕ) → σ < 6 → (e : Event) (h : ℕ) → h < 2 → p σ e h ≡ true
every_at p q σ l e h r = go e
  where
    events : ((p σ wait h && p σ tick h) ≡ true) × (p σ lock h ≡ true)
    events =
        (and-eq-true_iff (p σ wait h && p σ tick h) (p σ lock h)).0
        (all_at 2 _ (all_at 6 (λ σ. all 2 (λ h. p σ wait h && p σ tick h && p σ lock h)) q σ l) h r)

    go : (e : Event) → p σ e h ≡ true
    go wait = ((and-eq-true_iff (p σ wait h) (p σ tick h)).0 events.0).0
    go tick = ((and-eq-true_iff (p σ wait h) (p σ tick h)).0 events.0).1
    go lock = events.1

abbrev implies : Bool → Bool → Bool
implies true b = b
implies false b = true

-- a test of those that pass another
where_at : (p q : ℕ → Event → ℕ → Bool) → every (λ σ e h. implies (p σ e h) (q σ e h)) ≡ true
    → (σ : ℕ) → σ < 6 → (e : Event) (h : ℕ) → h < 2 → p σ e h ≡ true → q σ e h ≡ true
where_at p q t σ l e h r = go (p σ e h) (q σ e h) (every_at (λ σ e h. implies (p σ e h) (q σ e h)) t σ l e h r)
  where
    go : (a b : Bool) → implies a b ≡ true → a ≡ true → b ≡ true
    go true b x y = x
    go false b x y = absurd (false≢true y)

both : {a b : Bool} → a ≡ true → b ≡ true → (a && b) ≡ true
both {a} {b} x y = (and-eq-true_iff a b).1 (x, y)

-- some row at least as high as s is busy, as a test
abbrev pressed : ℕ → ℕ → Bool
pressed σ s = any 2 (λ h. at_least_as_high tiny s h && ltb 0 (tiny.left σ h))

pressed_test : (σ s : ℕ) → Pressed tiny σ s → pressed σ s ≡ true
pressed_test σ s p = any_of 2 _ p.row p.there (both p.high (lt-ltb _ _ p.busy))

-- each assumption is a test that antt runs over the table
pub tiny_assumed : Assumed tiny
unfolding charge all any sum sum_high at_least_as_high rounded_up
tiny_assumed = record {
  legal_next = λ σ e l. ltb-true _ _ (every_at (λ σ e h. ltb (after σ e) 6) refl σ l e 0 (lit< tt));
  refill_ahead = λ σ l h r. ltb-true _ _ (every_at (λ σ e h. ltb 0 (tiny.refill σ h)) refl σ l wait h r);
  period_whole = λ h r. ltb-true _ _ (every_at (λ σ e h. ltb 0 (tiny.period h)) refl 0 (lit< tt) wait h r);
  still_left = λ σ e l t h r. eqb-true _ _
      (where_at still (λ σ e h. eqb (tiny.left (after σ e) h) (tiny.left σ h)) refl σ l e h r (ap not t));
  still_refill = λ σ e l t h r. eqb-true _ _
      (where_at still (λ σ e h. eqb (tiny.refill (after σ e) h) (tiny.refill σ h)) refl σ l e h r (ap not t));
  charged_busy = λ σ e l t r. ltb-true _ _ (every_at (λ σ e h. ltb 0 (tiny.left σ (tiny.charged σ e))) refl σ l e 0 (lit< tt));
  busy_charged = λ σ e l t h r b. ltb-true _ _ (every_at (λ σ e h. ltb (tiny.charged σ e) 2) refl σ l e 0 (lit< tt));
  tick_left = λ σ e l t h r v. eqb-true _ _
      (where_at before (λ σ e h. eqb (tiny.left (after σ e) h + charge tiny σ e h) (tiny.left σ h)) refl σ l e h r (both t (lt-ltb _ _ v)));
  tick_refill = λ σ e l t h r v. eqb-true _ _
      (where_at before (λ σ e h. eqb (tiny.refill (after σ e) h + 1) (tiny.refill σ h)) refl σ l e h r (both t (lt-ltb _ _ v)));
  full_left = λ σ e l t h r v. eqb-true _ _
      (where_at last (λ σ e h. eqb (tiny.left (after σ e) h) (tiny.budget h)) refl σ l e h r (both t (eq-eqb _ _ v)));
  full_refill = λ σ e l t h r v. eqb-true _ _
      (where_at last (λ σ e h. eqb (tiny.refill (after σ e) h) (tiny.period h)) refl σ l e h r (both t (eq-eqb _ _ v)));
  strict_kept = λ σ e l s r p. leb-true _ _
      (where_at (λ σ e s. pressed σ s) (λ σ e s. leb (tiny.strict (after σ e) s) (tiny.strict σ s)) refl σ l e s r (pressed_test σ s p));
  strict_falls = λ σ e l s r p t c o. ltb-true _ _
      (where_at outranked (λ σ e s. ltb (tiny.strict (after σ e) s) (tiny.strict σ s)) refl σ l e s r
      (both (both (pressed_test σ s p) t) (ap not o)));
  admitted = λ σ l s r. leb-true _ _ (every_at (λ σ e s. leb (tiny.strict σ s + demand s) (tiny.period s)) refl σ l wait s r);
}
  where
    still : ℕ → Event → ℕ → Bool
    still σ e h = not (ticks e)

    before : ℕ → Event → ℕ → Bool
    before σ e h = ticks e && ltb 1 (tiny.refill σ h)

    last : ℕ → Event → ℕ → Bool
    last σ e h = ticks e && eqb (tiny.refill σ h) 1

    outranked : ℕ → Event → ℕ → Bool
    outranked σ e s = pressed σ s && ticks e && not (at_least_as_high tiny s (tiny.charged σ e))

    demand : ℕ → ℕ
    demand s = sum_high tiny s (λ h. tiny.budget h * rounded_up (tiny.period s) (tiny.period h))

pub tiny_fresh : Fresh tiny 0
unfolding all
tiny_fresh = record {
  legal = lit< tt;
  full = λ h r. eqb-true _ _ (all_at 2 (λ h. eqb (tiny.left 0 h) (tiny.budget h)) refl h r);
  whole = λ h r. eqb-true _ _ (all_at 2 (λ h. eqb (tiny.refill 0 h) (tiny.period h)) refl h r);
}

-- the theorem for it, whatever the events
pub tiny_exact : (es : List Event) (s : ℕ) → s < 2 → Exact tiny 0 es s
tiny_exact = exact tiny tiny_assumed 0 tiny_fresh

-- a run in which row 1 goes before row 0 at the third tick, and what it charges
abbrev run : List Event
run = tick ∷ wait ∷ lock ∷ tick ∷ wait ∷ tick ∷ tick ∷ tick ∷ []

pub tiny_run : charges tiny 0 run ≡ 0 ∷ 1 ∷ 1 ∷ 0 ∷ 0 ∷ 1 ∷ []
unfolding charges
tiny_run = refl

-- the first period of row 1, by the theorem
pub tiny_period : count 1 (period_of 4 0 (charges tiny 0 run)) ≡ 2
unfolding charges
tiny_period = (tiny_exact run 1 (lit< tt)).complete 0 (lit≤ tt)
