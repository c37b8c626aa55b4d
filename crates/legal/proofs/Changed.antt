-- "State": an event changes one task and the counts of its subsystem: when the state is legal afterwards.
use mathlib.Core.Path.{◌≡◌, refl, sym, ap, ◌∙◌, subst⁻¹, fun_ext}
use mathlib.Core.Logic.{◌≢◌}
use mathlib.Core.Bool.{Bool, true, false}
use Prim.Native.Nat.{ℕ, ◌+◌, ◌≤◌, ◌<◌}
use native.Mathlib.Omega.{arith}
use lib.Dec.{eqb}
use borrow.Author.Tests.{eqb-true, eqb-false}
use Rattle.below.proofs.Tests.{fails}
use Rattle.plan.specs.declared.Plan.{Plan}
use Rattle.plan.specs.Limits.{most_subsystems}
use Rattle.plan.specs.Plan.{owner, length_of}
use Rattle.plan.specs.Facts.{Accepted}
use Rattle.state.specs.declared.State.{State}
use Rattle.state.specs.State.{task_at, left_of, refill_of, used_of, last_held, in_section}
use Rattle.legal.specs.Facts.{Legal}
use Rattle.legal.proofs.Facts.{NoSection}
use Rattle.legal.proofs.Parts.{Engaged, Tasks, CountsAt, NoCounts, legal_tasks, legal_counts, legal_absent, legal_of}
use Rattle.legal.proofs.Tasks.{section_engaged, engaged_one}
use Rattle.legal.proofs.Counts.{SameCounts, SameSection, same_section, counts_kept, counts_out, counts_in}
use Rattle.legal.proofs.Replaced.{Fits, replaced}

-- every task but k and the counts of every subsystem but c are as before
pub record Changed (s u : State) (k c : ℕ) : Type 0 where
  pub others : (j : ℕ) → j ≢ k → task_at u j ≡ task_at s j
  pub elsewhere : (d : ℕ) → d ≢ c → SameCounts s u d

-- no task changed
pub tasks_same : (p : Plan) (s u : State) → ((j : ℕ) → task_at u j ≡ task_at s j) → Tasks p (task_at s) → Tasks p (task_at u)
tasks_same p s u same T = subst⁻¹ (Tasks p) (fun_ext same) T

module _ (p : Plan) (s u : State) (A : Accepted p) (L : Legal p s) where
  -- the counts of the other subsystems
  elsewhere_legal : (c : ℕ) → ((j : ℕ) → j < p.tasks → owner p j ≢ c → task_at u j ≡ task_at s j) → ((d : ℕ) → d ≢ c → SameCounts s u d) → CountsAt p u c
      → (d : ℕ) → d < p.subsystems → CountsAt p u d
  elsewhere_legal c others same C d h = go (eqb d c) refl
    where
      go : (b : Bool) → eqb d c ≡ b → CountsAt p u d
      go true e = rw (eqb-true d c e) C
      go false e =
          let n = eqb-false d c e in
          counts_kept p s u d (same d n) (λ k l o. same_section p _ _ (others k l (λ q. n (sym o ∙ q)))) (legal_counts p s L d h)

  -- absent subsystems stay so
  absent_legal : (c : ℕ) → c < p.subsystems → ((d : ℕ) → d ≢ c → SameCounts s u d) → (d : ℕ) → d < most_subsystems → p.subsystems ≤ d → NoCounts u d
  absent_legal c there same d l h =
      let S = same d (omega arith) in
      let N = legal_absent p s L d l h in
      (S.left ∙ N.0, S.refill ∙ N.1, S.used ∙ N.2)

  -- the whole state, with the counts of c to be shown
  pub changed_legal : (k c : ℕ) → k < p.tasks → owner p k ≡ c → Changed s u k c → Fits p (task_at s) k (task_at u k) → (Tasks p (task_at u) → CountsAt p u c) → Legal p u
  changed_legal k c h o D F C =
      legal_of p u A T (elsewhere_legal c (λ j l n. D.others j (λ q. n (ap (owner p) q ∙ o))) D.elsewhere (C T))
      (absent_legal c (rw o at (A.owner_there k h)) D.elsewhere)
    where
      T : Tasks p (task_at u)
      T = replaced p (task_at s) (task_at u) (legal_tasks p s L) k h F D.others

  -- only counts of c changed
  pub counts_legal_lem : (c : ℕ) → c < p.subsystems → ((j : ℕ) → task_at u j ≡ task_at s j) → ((d : ℕ) → d ≢ c → SameCounts s u d) → CountsAt p u c → Legal p u
  counts_legal_lem c h same else C = legal_of p u A (tasks_same p s u same (legal_tasks p s L)) (elsewhere_legal c (λ j l n. same j) else C) (absent_legal c h else)

-- the others of task k's subsystem c are outside sections
abbrev pub OthersOutside : Plan → State → ℕ → ℕ → Type 0
OthersOutside p s k c = (j : ℕ) → j < p.tasks → owner p j ≡ c → j ≢ k → in_section p (task_at s j) ≡ false

-- where k waits or is inside one
pub engaged_others : (p : Plan) (s : State) → Tasks p (task_at s) → (k c : ℕ) → k < p.tasks → owner p k ≡ c → Engaged p (task_at s k) → OthersOutside p s k c
engaged_others p s T k c h o e j l q n =
    fails _ (λ i. n (engaged_one p (task_at s) T j k l h (section_engaged p (task_at s j) i) e (q ∙ sym o)))

-- with k outside, no task of c is inside
pub all_outside : (p : Plan) (s : State) (k c : ℕ) → OthersOutside p s k c → in_section p (task_at s k) ≡ false → NoSection p s c
all_outside p s k c others out j l q = go (eqb j k) refl
  where
    go : (b : Bool) → eqb j k ≡ b → in_section p (task_at s j) ≡ false
    go true e = rw (eqb-true j k e) out
    go false e = others j l q (eqb-false j k e)

module _ (p : Plan) (s u : State) (A : Accepted p) (L : Legal p s) (k c : ℕ) (h : k < p.tasks) (o : owner p k ≡ c) (D : Changed s u k c) (F : Fits p (task_at s) k (task_at u k)) where
  -- the counts of c, where nothing about its section changed
  pub same_legal : SameCounts s u c → SameSection p (task_at s k) (task_at u k) → Legal p u
  same_legal S E = changed_legal p s u A L k c h o D F (λ T. counts_kept p s u c S each (legal_counts p s L c (rw o at (A.owner_there k h))))
    where
      each : (j : ℕ) → j < p.tasks → owner p j ≡ c → SameSection p (task_at s j) (task_at u j)
      each j l q = go (eqb j k) refl
        where
          go : (b : Bool) → eqb j k ≡ b → SameSection p (task_at s j) (task_at u j)
          go true e = rw (eqb-true j k e) E
          go false e = same_section p _ _ (D.others j (eqb-false j k e))

  module _ (less : (left_of u c).0 ≤ (left_of s c).0) (refill : refill_of u c ≡ refill_of s c) where
    -- k is inside a section now
    pub inside_legal : in_section p (task_at u k) ≡ true → used_of u c ≤ length_of p k (last_held (task_at u k))
        → length_of p k (last_held (task_at u k)) ≤ (left_of u c).0 + used_of u c → Legal p u
    inside_legal i used enough =
        let C = legal_counts p s L c (rw o at (A.owner_there k h)) in
        changed_legal p s u A L k c h o D F
        (λ T. counts_in p u c (omega (arith, C.left_most)) (omega (arith, C.refill_ahead)) (omega (arith, C.refill_most)) T k h o i used enough)

    -- no task of c is
    pub outside_legal : OthersOutside p s k c → in_section p (task_at u k) ≡ false → used_of u c ≡ 0 → Legal p u
    outside_legal others out z =
        let C = legal_counts p s L c (rw o at (A.owner_there k h)) in
        changed_legal p s u A L k c h o D F
        (λ T. counts_out p u c (omega (arith, C.left_most)) (omega (arith, C.refill_ahead)) (omega (arith, C.refill_most)) (all_outside p u k c others_after out) z)
      where
        others_after : OthersOutside p u k c
        others_after j l q n = rw (D.others j n) (others j l q n)
