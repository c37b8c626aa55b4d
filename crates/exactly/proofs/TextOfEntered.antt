-- The lengths of the plan read so far, where the U lines read are those of a plan's text: entered task by task, resource by resource.
use Rattle.std.proofs.Common.{◌≡◌, refl, ◌∙◌, ⊎_elim, List, ℕ, zero, suc, ◌≤◌, ◌<◌, not-suc-le-zero, le_of_lt, arith, length, get_or, set, length-set, get_or-set_same, get_or-set_other}
use Rattle.below.proofs.Search.{last_or_before}
use Rattle.plan.specs.declared.Plan.{Plan}
use Rattle.plan.specs.Plan.{place, length_of}
use Rattle.exactly.proofs.PlanShape.{place_task, place_resource, place_there}
use Rattle.exactly.proofs.SoundPlan.{Sound}
use Rattle.exactly.proofs.TextOfTables.{opened_to, opened_to_long}

-- the lengths of task t at its first n resources entered into a table
unfoldable pub entered : Plan → ℕ → ℕ → List ℕ → List ℕ
entered p t zero ls = ls
entered p t (suc n) ls = set (entered p t n ls) (place t n) (length_of p t n)

-- those of the first t tasks, over a table where nothing is declared
unfoldable pub entered_to : Plan → ℕ → List ℕ
entered_to p zero = opened_to p.tasks p.resources
entered_to p (suc t) = entered p t p.resources (entered_to p t)

entered_long : (p : Plan) (t n : ℕ) (ls : List ℕ) → length (entered p t n ls) ≡ length ls
unfolding entered
entered_long p t zero ls = refl
entered_long p t (suc n) ls = length-set (entered p t n ls) (place t n) (length_of p t n) ∙ entered_long p t n ls

entered_there : (p : Plan) (t n : ℕ) (ls : List ℕ) → length ls ≡ 512 → t < 32 → n ≤ 16 → (r : ℕ) → r < n → get_or (entered p t n ls) (place t r) 0 ≡ length_of p t r
unfolding entered
entered_there p t zero ls l h k r u = absurd (not-suc-le-zero u)
entered_there p t (suc n) ls l h k r u = ⊎_elim here (λ v. before v (entered_there p t n ls l h (le_of_lt k) r v)) (last_or_before u)
  where
    here : r ≡ n → get_or (set (entered p t n ls) (place t n) (length_of p t n)) (place t r) 0 ≡ length_of p t r
    here q =
        rw q (get_or-set_same (entered p t n ls) (place t n) (length_of p t n) 0 (omega (arith, entered_long p t n ls, place_there t n h k)))

    before : r < n → get_or (entered p t n ls) (place t r) 0 ≡ length_of p t r
        → get_or (set (entered p t n ls) (place t n) (length_of p t n)) (place t r) 0 ≡ length_of p t r
    before v e =
        get_or-set_other (entered p t n ls) (place t n) (place t r) (length_of p t n) 0
        (λ q. omega (arith, place_resource t r t n (omega arith) k q))
        ∙ e

pub entered_else : (p : Plan) (t n : ℕ) (ls : List ℕ) → n ≤ 16 → (u r : ℕ) → r < 16 → (u ≡ t → r < n → ⊥)
    → get_or (entered p t n ls) (place u r) 0 ≡ get_or ls (place u r) 0
unfolding entered
entered_else p t zero ls k u r h a = refl
entered_else p t (suc n) ls k u r h a =
    get_or-set_other (entered p t n ls) (place t n) (place u r) (length_of p t n) 0 other
    ∙ entered_else p t n ls (le_of_lt k) u r h (λ q v. a q (omega arith))
  where
    other : place u r ≡ place t n → ⊥
    other q = a (place_task u r t n h k q) (omega (arith, place_resource u r t n h k q))

module _ (p : Plan) (w : Sound p) where
  pub entered_to_long : (t : ℕ) → length (entered_to p t) ≡ 512
  unfolding entered_to
  entered_to_long zero = opened_to_long p.tasks p.resources
  entered_to_long (suc t) = entered_long p t p.resources (entered_to p t) ∙ entered_to_long t

  -- the tasks above have their lengths
  pub entered_to_there : (t : ℕ) → t ≤ p.tasks → (u r : ℕ) → u < t → r < p.resources → get_or (entered_to p t) (place u r) 0 ≡ length_of p u r
  unfolding entered_to
  entered_to_there zero h u r v x = absurd (not-suc-le-zero v)
  entered_to_there (suc t) h u r v x = ⊎_elim here (λ y. before y (entered_to_there t (le_of_lt h) u r y x)) (last_or_before v)
    where
      here : u ≡ t → get_or (entered p t p.resources (entered_to p t)) (place u r) 0 ≡ length_of p u r
      here q =
          rw q (entered_there p t p.resources (entered_to p t) (entered_to_long t) (omega (arith, w.owners_fit.few)) w.kinds_fit.few r x)

      before : u < t → get_or (entered_to p t) (place u r) 0 ≡ length_of p u r → get_or (entered p t p.resources (entered_to p t)) (place u r) 0 ≡ length_of p u r
      before y e = entered_else p t p.resources (entered_to p t) w.kinds_fit.few u r (omega (arith, w.kinds_fit.few)) (λ q z. omega arith) ∙ e

  -- all else is as it was opened
  pub entered_to_else : (t u r : ℕ) → r < 16 → (u < t → r < p.resources → ⊥) → get_or (entered_to p t) (place u r) 0 ≡ get_or (opened_to p.tasks p.resources) (place u r) 0
  unfolding entered_to
  entered_to_else zero u r h a = refl
  entered_to_else (suc t) u r h a =
      entered_else p t p.resources (entered_to p t) w.kinds_fit.few u r h (λ q v. a (omega arith) v)
      ∙ entered_to_else t u r h (λ x y. a (omega arith) y)
