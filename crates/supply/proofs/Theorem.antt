-- The budget theorem: from a fresh start, whatever the events, each complete period charges a row exactly its budget, and an unfinished one at most that.
use mathlib.Core.Path.{◌≡◌, refl, sym, ap, ◌∙◌}
use mathlib.Core.Bool.{Bool, true, false}
use mathlib.Core.List.{List}
use Prim.Native.Nat.{ℕ, zero, suc, ◌+◌, ◌-◌, ◌*◌, ◌≤◌, ◌<◌}
use native.Mathlib.Nat.{le_of_lt, zero-mul, suc-mul}
use native.Mathlib.Omega.{arith}
use lib.Dec.{leb}
use lib.ListN.{length, take, drop, length-drop, drop_of_length-le}
use lib.Seq.{take-nil, take_at, drop_at, drop-drop}
use borrow.Author.Tests.{leb-true, leb-false}
use Rattle.supply.specs.System.{System}
use Rattle.supply.specs.Assumed.{Assumed, Fresh}
use Rattle.supply.specs.Charges.{charges, count, period_of, Exact}
use Rattle.supply.proofs.InTime.{in_time_fresh}
use Rattle.supply.proofs.Count.{Start, Turn, count_most, turn}

-- the run that goes on after the first n ticks of another, at the start of a period of s
record Later (S : System) (s : ℕ) (σ : S.State) (es : List S.Event) (n : ℕ) : Type 0 where
  state : S.State
  events : List S.Event
  start : Start S s state
  rest : drop n (charges S σ es) ≡ charges S state events

module _ (S : System) (A : Assumed S) (s : ℕ) (r : s < S.rows) (σ : S.State) (es : List S.Event) where
  -- it has one more whole period where the run has
  one_more : (n : ℕ) (w : Later S s σ es n) → n + S.period s ≤ length (charges S σ es) → Turn S s w.state w.events
  one_more n w h =
      let same : length (charges S w.state w.events) ≡ length (charges S σ es) - n =
      ap length (sym w.rest) ∙ length-drop n (charges S σ es) in
      turn S A s r w.events w.state w.start.legal w.start.in_time (omega (arith, w.start.whole))

  -- after which it is at the start of the next
  after : (n : ℕ) (w : Later S s σ es n) → Turn S s w.state w.events → Later S s σ es (n + S.period s)
  after n w t = record {
    state = t.state;
    events = t.events;
    start = t.start;
    rest = rw (← drop-drop (S.period s) n (charges S σ es), w.rest, t.parts)
        (drop_at t.head (charges S t.state t.events) (S.period s) (t.long ∙ w.start.whole));
  }

  -- a run of k periods or more is at the start of a period after k of them
  Reaches : ℕ → Type 0
  Reaches k = k * S.period s ≤ length (charges S σ es) → Later S s σ es (k * S.period s)

  reaches_zero : Start S s σ → Reaches 0
  unfolding Reaches
  reaches_zero st h = record { state = σ; events = es; start = st; rest = rw (zero-mul (S.period s)) }

  reaches_next : (k : ℕ) → Reaches k → Reaches (suc k)
  unfolding Reaches
  reaches_next k f h =
      let w = f (omega arith) in
      rw (suc-mul k (S.period s)) (after (k * S.period s) w (one_more (k * S.period s) w (omega arith)))

  later : Start S s σ → (k : ℕ) → Reaches k
  later st zero = reaches_zero st
  later st (suc k) = reaches_next k (later st k)

  -- the next period then charges s its budget if the run has the whole of it
  complete : Start S s σ → (k : ℕ) → k * S.period s + S.period s ≤ length (charges S σ es) → count s (period_of (S.period s) k (charges S σ es)) ≡ S.budget s
  unfolding period_of Reaches
  complete st k h = go w (one_more (k * S.period s) w h)
    where
      w : Later S s σ es (k * S.period s)
      w = later st k (omega arith)

      go : (w : Later S s σ es (k * S.period s)) → Turn S s w.state w.events → count s (take (S.period s) (drop (k * S.period s) (charges S σ es))) ≡ S.budget s
      go w t =
          rw (w.rest, t.parts, take_at t.head (charges S t.state t.events) (S.period s) (t.long ∙ w.start.whole))
          (t.all_left ∙ w.start.full)

  -- and no more in any case; where the run ends before the period, nothing
  unfinished : Start S s σ → (k : ℕ) → count s (period_of (S.period s) k (charges S σ es)) ≤ S.budget s
  unfolding period_of count Reaches
  unfinished st k = go (leb (k * S.period s) (length (charges S σ es))) refl
    where
      go : (b : Bool) → leb (k * S.period s) (length (charges S σ es)) ≡ b → count s (take (S.period s) (drop (k * S.period s) (charges S σ es))) ≤ S.budget s
      go true q =
          let w = later st k (leb-true (k * S.period s) (length (charges S σ es)) q) in
          rw w.rest
          (omega
          (arith, count_most S A s r w.events w.state w.start.legal (S.period s) (omega (arith, w.start.whole)), w.start.full))
      go false q =
          rw (
            drop_of_length-le (charges S σ es) (le_of_lt (leb-false (k * S.period s) (length (charges S σ es)) q)),
            take-nil {A = ℕ} (S.period s),
          )
          (omega arith)

pub exact : (S : System) → Assumed S → (σ : S.State) → Fresh S σ → (es : List S.Event) → (s : ℕ) → s < S.rows → Exact S σ es s
exact S A σ f es s r = record {
  complete = λ k h. complete S A s r σ es start k (omega arith);
  unfinished = unfinished S A s r σ es start;
}
  where
    start : Start S s σ
    start = record { legal = f.legal; in_time = in_time_fresh S A σ f s r; full = f.full s r; whole = f.whole s r }
