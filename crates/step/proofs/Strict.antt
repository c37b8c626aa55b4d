-- What still holds a row back is at most its blocking: by the last legality condition at most one task counts.
use mathlib.Core.Path.{◌≡◌, refl}
use mathlib.Core.Logic.{◌≢◌, ⊎_elim}
use mathlib.Core.Bool.{Bool, true, false, cond}
use Prim.Native.Nat.{ℕ, ◌≤◌, ◌<◌}
use native.Mathlib.Omega.{arith}
use lib.Dec.{eqb}
use borrow.Author.Tests.{leb-true, ltb-true, le-leb, lt-ltb, eqb-true, eqb-false}
use Rattle.below.specs.Below.{any}
use Rattle.below.proofs.Search.{any_true, any_false}
use Rattle.below.proofs.Amounts.{sum_only, sum_zero}
use Rattle.below.proofs.Tests.{fails, conjuncts}
use Rattle.plan.specs.declared.Plan.{Plan}
use Rattle.plan.specs.Plan.{owner, level}
use Rattle.plan.specs.Ceiling.{global_ceiling}
use Rattle.plan.specs.Admission.{blocking}
use Rattle.plan.proofs.BlockingLaws.{blocking_at_lem}
use Rattle.state.specs.declared.State.{State}
use Rattle.state.specs.State.{task_at, last_held, in_section, section_left}
use Rattle.legal.specs.Facts.{Legal}
use Rattle.legal.proofs.Parts.{Tasks, legal_tasks}
use Rattle.legal.proofs.Tasks.{section_engaged, engaged_one, section_there, section_declares, section_global}
use Rattle.step.specs.Strict.{holds_back, strict_of}

-- what the test says
pub record HoldsBack (p : Plan) (s : State) (row k : ℕ) : Type 0 where
  pub inside : in_section p (task_at s k) ≡ true
  pub lower : level p row < level p (owner p k)
  pub reaches : global_ceiling p (last_held (task_at s k)) ≤ level p row

module _ (p : Plan) (s : State) (row k : ℕ) where
  -- the facts from the test
  pub holds_back_facts : holds_back p s row k ≡ true → HoldsBack p s row k
  unfolding holds_back
  holds_back_facts e = record { inside = search conjuncts; lower = ltb-true _ _ (search conjuncts); reaches = leb-true _ _ (search conjuncts) }

  -- and back
  pub facts_holds_back : HoldsBack p s row k → holds_back p s row k ≡ true
  unfolding holds_back
  facts_holds_back H = rw (H.inside, lt-ltb _ _ H.lower, le-leb _ _ H.reaches)

module _ (p : Plan) (s : State) (L : Legal p s) (row : ℕ) where
  -- the tasks, as legal
  T : Tasks p (task_at s)
  T = legal_tasks p s L

  -- at most one task holds a row back
  pub one_holds_back : (j k : ℕ) → j < p.tasks → k < p.tasks → HoldsBack p s row j → HoldsBack p s row k → j ≡ k
  one_holds_back j k a b H K = go (eqb (owner p j) (owner p k)) refl
    where
      go : (o : Bool) → eqb (owner p j) (owner p k) ≡ o → j ≡ k
      go true o =
          engaged_one p (task_at s) T j k a b (section_engaged p (task_at s j) H.inside) (section_engaged p (task_at s k) K.inside) (eqb-true _ _ o)
      go false o =
          absurd
          (⊎_elim (λ u. omega (arith, u, H.lower, K.reaches)) (λ u. omega (arith, u, K.lower, H.reaches))
          (T.sections j k a b H.inside K.inside (eqb-false _ _ o)))

  -- with a task that holds the row back, what is left of its section is all; with none, nothing

  pub strict_one : (k : ℕ) → k < p.tasks → HoldsBack p s row k → strict_of p s row ≡ (section_left p s k).0
  unfolding strict_of
  strict_one k h K = rw (facts_holds_back p s row k K) at (sum_only p.tasks (λ k. cond (holds_back p s row k) (section_left p s k).0 0) k h others)
    where
      others : (j : ℕ) → j < p.tasks → j ≢ k → cond (holds_back p s row j) (section_left p s j).0 0 ≡ 0
      others j l n = rw (fails (holds_back p s row j) (λ e. n (one_holds_back j k l h (holds_back_facts p s row j e) K)))

  pub strict_none : ((k : ℕ) → k < p.tasks → holds_back p s row k ≡ false) → strict_of p s row ≡ 0
  unfolding strict_of
  strict_none f = sum_zero p.tasks _ (λ k h. rw (f k h))

  -- the section left of a task that holds the row back is at most the blocking
  left_blocking : (k : ℕ) → k < p.tasks → HoldsBack p s row k → (section_left p s k).0 ≤ blocking p row
  unfolding section_left
  left_blocking k h K =
      let t = task_at s k in
      let TL = L.task k h in
      omega (
        arith,
        K.lower,
        blocking_at_lem p row k (last_held t) h (section_there p k t TL K.inside) (section_global p k t TL K.inside) (section_declares p k t TL K.inside)
            (omega (arith, K.lower)),
      )

  -- so the sum is at most the blocking
  pub strict_blocking : strict_of p s row ≤ blocking p row
  strict_blocking = go (any p.tasks (holds_back p s row)) refl
    where
      go : (b : Bool) → any p.tasks (holds_back p s row) ≡ b → strict_of p s row ≤ blocking p row
      go true e =
          let w = any_true p.tasks (holds_back p s row) e in
          let K = holds_back_facts p s row w.at w.passes in
          omega (arith, strict_one w.at w.there K, left_blocking w.at w.there K)
      go false e = omega (arith, strict_none (any_false p.tasks (holds_back p s row) e))
