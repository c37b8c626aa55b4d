-- The plan read so far: its lists keep their lengths, a place belongs to one pair, and what a new resource does to the lengths.
use Rattle.std.proofs.Common.{◌≡◌, refl, ◌∙◌, ◌⊎◌, inl, inr, ⊎_elim, Bool, true, false, List, ℕ, zero, suc, ◌≤◌, ◌<◌, not-suc-le-zero, lt-suc_self, arith, eqb, length, get_or, set, length-set, replicate, get_or-set_same, get_or-set_other, eqb-true, ne_eqb, Option, Some, None}
use native.Mathlib.Nat.{le_step}
use lib.ListN.{length-replicate}
use borrow.Author.Tests.{eqb-false}
use Rattle.below.proofs.Search.{last_or_before}
use Rattle.plan.specs.declared.Plan.{Plan}
use Rattle.plan.specs.Limits.{undeclared}
use Rattle.plan.specs.Plan.{place, length_of, declares}
use Rattle.reader.specs.declared.Line.{Line}
use Rattle.reader.specs.declared.Line.TheVariants.{Subsystem, Task, Resource, Uses}
use Rattle.reader.specs.Reading.{empty_plan, opened, with_subsystem, with_task, with_resource, with_use, with_line}

-- the lists of a plan are as long as its tables
pub record Shaped (p : Plan) : Type 0 where
  pub periods_long : length p.periods ≡ 8
  pub budgets_long : length p.budgets ≡ 8
  pub owners_long : length p.owners ≡ 32
  pub kinds_long : length p.kinds ≡ 16
  pub lengths_long : length p.lengths ≡ 512

-- two pairs with one place are one pair
pub place_task : (t r u q : ℕ) → r < 16 → q < 16 → place t r ≡ place u q → t ≡ u
unfolding place
place_task t r u q h k e = omega arith

pub place_resource : (t r u q : ℕ) → r < 16 → q < 16 → place t r ≡ place u q → r ≡ q
unfolding place
place_resource t r u q h k e = omega arith

-- two pairs are one, or their places differ
pub same_or_apart : (u v t r : ℕ) → v < 16 → r < 16 → ((u ≡ t) × (v ≡ r)) ⊎ (place u v ≡ place t r → ⊥)
same_or_apart u v t r h k = go (eqb (place u v) (place t r)) refl
  where
    go : (b : Bool) → eqb (place u v) (place t r) ≡ b → ((u ≡ t) × (v ≡ r)) ⊎ (place u v ≡ place t r → ⊥)
    go true e =
        let q = eqb-true (place u v) (place t r) e in
        inl (place_task u v t r h k q, place_resource u v t r h k q)
    go false e = inr (eqb-false (place u v) (place t r) e)

-- the place of a pair of rows that are there is in the table
pub place_there : (t r : ℕ) → t < 32 → r < 16 → place t r < 512
unfolding place
place_there t r h k = omega arith

-- declared or not, by the length
pub declares_not : (p : Plan) (t r : ℕ) → length_of p t r ≡ undeclared → declares p t r ≡ false
unfolding declares
declares_not p t r e = rw e

pub declares_short : (p : Plan) (t r : ℕ) → length_of p t r < undeclared → declares p t r ≡ true
unfolding declares
declares_short p t r h = rw (ne_eqb (length_of p t r) 65535 (omega arith))

pub declares_same : (p q : Plan) (t r : ℕ) → length_of p t r ≡ length_of q t r → declares p t r ≡ declares q t r
unfolding declares
declares_same p q t r e = rw e

-- a new resource: the table keeps its length
pub length_opened : (n r : ℕ) (ls : List ℕ) → length (opened n r ls) ≡ length ls
unfolding opened
length_opened zero r ls = refl
length_opened (suc n) r ls = length-set (opened n r ls) (place n r) undeclared ∙ length_opened n r ls

-- its own entries are undeclared
pub opened_at : (n r : ℕ) (ls : List ℕ) → n ≤ 32 → r < 16 → length ls ≡ 512 → (t : ℕ) → t < n → get_or (opened n r ls) (place t r) 0 ≡ undeclared
unfolding opened
opened_at zero r ls h k e t u = absurd (not-suc-le-zero u)
opened_at (suc n) r ls h k e t u = ⊎_elim here (λ v. before v (opened_at n r ls (omega arith) k e t v)) (last_or_before u)
  where
    here : t ≡ n → get_or (set (opened n r ls) (place n r) undeclared) (place t r) 0 ≡ undeclared
    here q =
        let l : place n r < length (opened n r ls) = rw (length_opened n r ls, e) (place_there n r h k) in
        rw q (get_or-set_same (opened n r ls) (place n r) undeclared 0 l)

    before : t < n → get_or (opened n r ls) (place t r) 0 ≡ undeclared → get_or (set (opened n r ls) (place n r) undeclared) (place t r) 0 ≡ undeclared
    before v ih =
        get_or-set_other (opened n r ls) (place n r) (place t r) undeclared 0 (λ w. omega (arith, place_task t r n r k k w)) ∙ ih

-- every other entry is what it was
pub opened_else : (n r : ℕ) (ls : List ℕ) (j : ℕ) → ((t : ℕ) → t < n → j ≡ place t r → ⊥) → get_or (opened n r ls) j 0 ≡ get_or ls j 0
unfolding opened
opened_else zero r ls j h = refl
opened_else (suc n) r ls j h =
    get_or-set_other (opened n r ls) (place n r) j undeclared 0 (h n (lt-suc_self n)) ∙ opened_else n r ls j (λ t u. h t (le_step u))

-- a table of zeros
pub zeros : (m n : ℕ) → ◌≡◌ {A = ℕ} (get_or (replicate m 0) n 0) 0
zeros zero n = refl
zeros (suc m) zero = refl
zeros (suc m) (suc n) = zeros m n

pub shaped_empty : Shaped empty_plan
unfolding empty_plan
shaped_empty = record {
  periods_long = refl;
  budgets_long = refl;
  owners_long = refl;
  kinds_long = refl;
  lengths_long = length-replicate {A = ℕ} 512 0;
}

-- whatever the line, the lists keep their lengths
pub shaped_line : (p : Plan) (l : Option Line) → Shaped p → Shaped (with_line p l)
unfolding with_line with_subsystem with_task with_resource with_use
shaped_line p (Some (Subsystem period budget)) w = record {
  periods_long = length-set p.periods p.subsystems period ∙ w.periods_long;
  budgets_long = length-set p.budgets p.subsystems budget ∙ w.budgets_long;
  owners_long = w.owners_long;
  kinds_long = w.kinds_long;
  lengths_long = w.lengths_long;
}
shaped_line p (Some (Task subsystem)) w = record {
  periods_long = w.periods_long;
  budgets_long = w.budgets_long;
  owners_long = length-set p.owners p.tasks subsystem ∙ w.owners_long;
  kinds_long = w.kinds_long;
  lengths_long = w.lengths_long;
}
shaped_line p (Some (Resource kind)) w = record {
  periods_long = w.periods_long;
  budgets_long = w.budgets_long;
  owners_long = w.owners_long;
  kinds_long = length-set p.kinds p.resources kind ∙ w.kinds_long;
  lengths_long = length_opened p.tasks p.resources p.lengths ∙ w.lengths_long;
}
shaped_line p (Some (Uses task resource length)) w = record {
  periods_long = w.periods_long;
  budgets_long = w.budgets_long;
  owners_long = w.owners_long;
  kinds_long = w.kinds_long;
  lengths_long = length-set p.lengths (place task resource) length ∙ w.lengths_long;
}
shaped_line p None w = w

-- the lengths with one more resource: its own are undeclared, the others kept
pub resource_own : (p : Plan) (k t : ℕ) → Shaped p → p.tasks ≤ 32 → p.resources < 16 → t < p.tasks → length_of (with_resource p k) t p.resources ≡ undeclared
unfolding length_of with_resource
resource_own p k t w h u v = opened_at p.tasks p.resources p.lengths h u w.lengths_long t v

pub resource_else : (p : Plan) (k t r : ℕ) → p.resources < 16 → r < 16 → (t < p.tasks → r ≡ p.resources → ⊥)
    → length_of (with_resource p k) t r ≡ length_of p t r
unfolding length_of with_resource
resource_else p k t r u v h = opened_else p.tasks p.resources p.lengths (place t r) other
  where
    other : (j : ℕ) → j < p.tasks → place t r ≡ place j p.resources → ⊥
    other j l e = h (omega (arith, place_task t r j p.resources v u e)) (place_resource t r j p.resources v u e)

-- the lengths with one more pair: the new one, and the others kept
pub use_own : (p : Plan) (t r m : ℕ) → Shaped p → t < 32 → r < 16 → length_of (with_use p t r m) t r ≡ m
unfolding length_of with_use
use_own p t r m w h u = get_or-set_same p.lengths (place t r) m 0 (rw w.lengths_long (place_there t r h u))

pub use_else : (p : Plan) (t r m u q : ℕ) → (place u q ≡ place t r → ⊥) → length_of (with_use p t r m) u q ≡ length_of p u q
unfolding length_of with_use
use_else p t r m u q h = get_or-set_other p.lengths (place t r) (place u q) m 0 h
