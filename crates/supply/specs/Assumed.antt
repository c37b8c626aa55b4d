-- What is assumed of a system at every event from a legal state, and of the state that a run starts in.
use Rattle.std.specs.Prelude.{◌≡◌, Bool, true, false, cond, ℕ, ◌+◌, ◌*◌, ◌≤◌, ◌<◌, leb, eqb}
use Rattle.below.specs.Below.{sum}
use Rattle.below.specs.Quotient.{rounded_up}
use Rattle.supply.specs.System.{System}

-- h is at least as high as s: its level is at most that of s
unfoldable pub at_least_as_high : System → ℕ → ℕ → Bool
at_least_as_high S s h = leb (S.level h) (S.level s)

-- the sum of f over the rows at least as high as s, s among them
unfoldable pub sum_high : (S : System) → ℕ → (ℕ → ℕ) → ℕ
sum_high S s f = sum S.rows (λ h. cond (at_least_as_high S s h) (f h) 0)

-- 1 where the tick charges the row, else 0
unfoldable pub charge : (S : System) → S.State → S.Event → ℕ → ℕ
charge S σ e h = cond (eqb (S.charged σ e) h) 1 0

-- some row at least as high as s is busy: it has budget left
pub record Pressed (S : System) (σ : S.State) (s : ℕ) : Type 0 where
  pub row : ℕ
  pub there : row < S.rows
  pub high : at_least_as_high S s row ≡ true
  pub busy : 0 < S.left σ row

-- the assumptions, numbered as in the argument
pub record Assumed (S : System) : Type 0 where
  -- a legal state stays legal
  pub legal_next : (σ : S.State) (e : S.Event) → S.Legal σ → S.Legal (S.next σ e)
  -- a refill is still to come
  pub refill_ahead : (σ : S.State) → S.Legal σ → (h : ℕ) → h < S.rows → 0 < S.refill σ h
  -- a period is one tick at least
  pub period_whole : (h : ℕ) → h < S.rows → 0 < S.period h
  -- (1) an event that is no tick changes no budget left and no refill
  pub still_left : (σ : S.State) (e : S.Event) → S.Legal σ → S.tick e ≡ false → (h : ℕ) → h < S.rows → S.left (S.next σ e) h ≡ S.left σ h
  pub still_refill : (σ : S.State) (e : S.Event) → S.Legal σ → S.tick e ≡ false → (h : ℕ) → h < S.rows → S.refill (S.next σ e) h ≡ S.refill σ h
  -- (2) a tick charges a busy row, and charges one if any is busy
  pub charged_busy : (σ : S.State) (e : S.Event) → S.Legal σ → S.tick e ≡ true → S.charged σ e < S.rows → 0 < S.left σ (S.charged σ e)
  pub busy_charged : (σ : S.State) (e : S.Event) → S.Legal σ → S.tick e ≡ true → (h : ℕ) → h < S.rows → 0 < S.left σ h → S.charged σ e < S.rows
  -- (2) then each refill falls by one, and a row whose refill comes has budget and period full again
  pub tick_left : (σ : S.State) (e : S.Event) → S.Legal σ → S.tick e ≡ true → (h : ℕ) → h < S.rows → 1 < S.refill σ h → S.left (S.next σ e) h + charge S σ e h ≡ S.left σ h
  pub tick_refill : (σ : S.State) (e : S.Event) → S.Legal σ → S.tick e ≡ true → (h : ℕ) → h < S.rows → 1 < S.refill σ h → S.refill (S.next σ e) h + 1 ≡ S.refill σ h
  pub full_left : (σ : S.State) (e : S.Event) → S.Legal σ → S.tick e ≡ true → (h : ℕ) → h < S.rows → S.refill σ h ≡ 1 → S.left (S.next σ e) h ≡ S.budget h
  pub full_refill : (σ : S.State) (e : S.Event) → S.Legal σ → S.tick e ≡ true → (h : ℕ) → h < S.rows → S.refill σ h ≡ 1 → S.refill (S.next σ e) h ≡ S.period h
  -- (3) while a row at least as high as s is busy, no event raises strict s, and a tick that charges a row of larger level lowers it
  pub strict_kept : (σ : S.State) (e : S.Event) → S.Legal σ → (s : ℕ) → s < S.rows → Pressed S σ s → S.strict (S.next σ e) s ≤ S.strict σ s
  pub strict_falls : (σ : S.State) (e : S.Event) → S.Legal σ → (s : ℕ) → s < S.rows → Pressed S σ s → S.tick e ≡ true → S.charged σ e < S.rows → at_least_as_high S s (S.charged σ e) ≡ false → S.strict (S.next σ e) s < S.strict σ s
  -- (4) admission, asked of each state: what holds s back and what the rows at least as high can want in one period of s fit into it
  pub admitted : (σ : S.State) → S.Legal σ → (s : ℕ) → s < S.rows → S.strict σ s + sum_high S s (λ h. S.budget h * rounded_up (S.period s) (S.period h)) ≤ S.period s

-- a run starts in a legal state with full budgets and full periods to go
pub record Fresh (S : System) (σ : S.State) : Type 0 where
  pub legal : S.Legal σ
  pub full : (h : ℕ) → h < S.rows → S.left σ h ≡ S.budget h
  pub whole : (h : ℕ) → h < S.rows → S.refill σ h ≡ S.period h
