-- Which updates let what holds a row back grow no further: every section of a larger level afterwards is one that was there, with no more left.
use mathlib.Core.Path.{◌≡◌, refl, sym, ap, ◌∙◌}
use mathlib.Core.Logic.{◌≢◌, ◌⊎◌, inl, inr, ⊎_elim}
use mathlib.Core.Bool.{Bool, true, false, cond}
use Prim.Native.Nat.{ℕ, ◌+◌, ◌≤◌, ◌<◌}
use native.Mathlib.Nat.{le_of_eq}
use native.Mathlib.Omega.{arith}
use lib.Dec.{eqb}
use borrow.Author.Tests.{eqb-true, eqb-false}
use Rattle.below.proofs.Amounts.{sum_rises, sum_falls}
use Rattle.below.proofs.Tests.{clash}
use Rattle.plan.specs.declared.Plan.{Plan}
use Rattle.plan.specs.Limits.{most_tasks}
use Rattle.plan.specs.Plan.{owner, level}
use Rattle.state.specs.declared.Task.{Task}
use Rattle.state.specs.declared.State.{State}
use lib.ListN.{length}
use Rattle.state.specs.State.{most_held, task_at, used_of, last_held, in_section, section_left}
use Rattle.state.specs.Update.{with_task, with_used}
use Rattle.state.specs.Sized.{Sized}
use Rattle.state.proofs.Update.{task_at_with_task, task_at_with_task_other, used_of_with_task, task_at_with_used, used_of_with_used_other}
use Rattle.legal.proofs.Changed.{OthersOutside}
use Rattle.step.specs.Strict.{holds_back, strict_of}
use Rattle.step.proofs.Strict.{HoldsBack, holds_back_facts, facts_holds_back}

-- the section of k in u is that of s, with as much of it used at least
pub record Shrunk (p : Plan) (s u : State) (k : ℕ) : Type 0 where
  pub inside : in_section p (task_at s k) ≡ true
  pub last : last_held (task_at u k) ≡ last_held (task_at s k)
  pub used : used_of s (owner p k) ≤ used_of u (owner p k)

-- so it is with every section of a subsystem of larger level than row
abbrev pub Lowers : Plan → State → State → ℕ → Type 0
Lowers p s u row = (k : ℕ) → k < p.tasks → level p row < level p (owner p k) → in_section p (task_at u k) ≡ true → Shrunk p s u k

-- so there is no more left
shrunk_left : (p : Plan) (s u : State) (k : ℕ) → Shrunk p s u k → (section_left p u k).0 ≤ (section_left p s k).0
unfolding section_left
shrunk_left p s u k W = rw W.last (omega (arith, W.used))

module _ (p : Plan) (s u : State) (row : ℕ) (M : Lowers p s u row) where
  -- who holds row back did so before
  back_before : (k : ℕ) → k < p.tasks → HoldsBack p u row k → HoldsBack p s row k
  back_before k h H =
      let W = M k h H.lower H.inside in
      record { inside = W.inside; lower = H.lower; reaches = rw W.last at H.reaches }

  -- what one task counts does not rise
  counts_less : (k : ℕ) → k < p.tasks → cond (holds_back p u row k) (section_left p u k).0 0 ≤ cond (holds_back p s row k) (section_left p s k).0 0
  counts_less k h = go (holds_back p u row k) refl
    where
      go : (b : Bool) → holds_back p u row k ≡ b → cond b (section_left p u k).0 0 ≤ cond (holds_back p s row k) (section_left p s k).0 0
      go true e =
          let H = holds_back_facts p u row k e in
          rw (facts_holds_back p s row k (back_before k h H)) (shrunk_left p s u k (M k h H.lower H.inside))
      go false e = omega arith

  -- nor does the sum
  pub strict_less : strict_of p u row ≤ strict_of p s row
  unfolding strict_of
  strict_less = sum_rises p.tasks _ _ counts_less

  -- and falls where the section left of a task that holds the row back does
  pub strict_falls : (k : ℕ) → k < p.tasks → HoldsBack p s row k → (section_left p u k).0 + 1 ≤ (section_left p s k).0 → strict_of p u row + 1 ≤ strict_of p s row
  unfolding strict_of
  strict_falls k h H fall = sum_falls p.tasks _ _ 1 k h (rw (facts_holds_back p s row k H) (go (holds_back p u row k))) counts_less
    where
      go : (b : Bool) → cond b (section_left p u k).0 0 + 1 ≤ (section_left p s k).0
      go true = fall
      go false = omega arith

-- one task changed, and the used count of its subsystem
module _ (p : Plan) (s u : State) (k row : ℕ) (others : (j : ℕ) → j ≢ k → task_at u j ≡ task_at s j) (used : (d : ℕ) → d ≢ owner p k → used_of u d ≡ used_of s d) where
  -- the others need only the used count of their subsystem
  pub change_lowers : OthersOutside p s k (owner p k) ⊎ (used_of u (owner p k) ≡ used_of s (owner p k))
      → (level p row < level p (owner p k) → in_section p (task_at u k) ≡ true → Shrunk p s u k) → Lowers p s u row
  change_lowers rest own j l v i = go (eqb j k) refl
    where
      other : j ≢ k → in_section p (task_at s j) ≡ true
      other n = rw (others j n) at i

      counts : j ≢ k → (b : Bool) → eqb (owner p j) (owner p k) ≡ b → used_of s (owner p j) ≤ used_of u (owner p j)
      counts n true e =
          let o = eqb-true (owner p j) (owner p k) e in
          ⊎_elim (λ out. absurd (clash (other n) (out j l o n))) (λ q. rw o (le_of_eq (sym q))) rest
      counts n false e = le_of_eq (sym (used (owner p j) (eqb-false (owner p j) (owner p k) e)))

      go : (b : Bool) → eqb j k ≡ b → Shrunk p s u j
      go true e =
          let q = eqb-true j k e in
          rw q (own (rw q at v) (rw q at i))
      go false e =
          let n = eqb-false j k e in
          record { inside = other n; last = ap last_held (others j n); used = counts n (eqb (owner p j) (owner p k)) refl }

-- t is inside a section only with what u holds last, or not of larger level
abbrev pub NoNew : Plan → State → ℕ → ℕ → Task → Type 0
NoNew p s row k t = level p row < level p (owner p k) → in_section p t ≡ true → (in_section p (task_at s k) ≡ true) × (last_held t ≡ last_held (task_at s k))

module _ (p : Plan) (s : State) (Z : Sized s) (row k : ℕ) (h : k < most_tasks) (t : Task) (size : length t.held ≡ most_held) where
  -- a task replaced that opens no section of larger level
  pub task_strict : NoNew p s row k t → strict_of p (with_task s k t) row ≤ strict_of p s row
  task_strict f =
      strict_less p s (with_task s k t) row
      (change_lowers p s (with_task s k t) k row (task_at_with_task_other s k t) (λ d n. used_of_with_task s k t d) (inr (used_of_with_task s k t (owner p k))) own)
    where
      own : level p row < level p (owner p k) → in_section p (task_at (with_task s k t) k) ≡ true → Shrunk p s (with_task s k t) k
      own v i =
          let q = task_at_with_task s k t Z h size in
          let w = f v (rw q at i) in
          record { inside = w.0; last = ap last_held q ∙ w.1; used = le_of_eq (sym (used_of_with_task s k t (owner p k))) }

  -- a section closed, with used set to 0
  pub closed_strict : OthersOutside p s k (owner p k) → in_section p t ≡ false → strict_of p (with_used (with_task s k t) (owner p k) 0) row ≤ strict_of p s row
  closed_strict outside out = strict_less p s u row (change_lowers p s u k row others used (inl outside) (λ v i. absurd (clash (rw at_k at i) out)))
    where
      u : State
      u = with_used (with_task s k t) (owner p k) 0

      at_k : task_at u k ≡ t
      at_k = task_at_with_used (with_task s k t) (owner p k) 0 k ∙ task_at_with_task s k t Z h size

      others : (j : ℕ) → j ≢ k → task_at u j ≡ task_at s j
      others j n = task_at_with_used (with_task s k t) (owner p k) 0 j ∙ task_at_with_task_other s k t j n

      used : (d : ℕ) → d ≢ owner p k → used_of u d ≡ used_of s d
      used d n = used_of_with_used_other (with_task s k t) (owner p k) 0 d n ∙ used_of_with_task s k t d
