-- What `all`, `any`, `find`, `max` and `sum` answer over a range from 0, and what `from_fn` fills, in the words of specs/Below and specs/Listed.
use Rattle.std.proofs.Common.{◌≡◌, ℕ, zero, suc, ◌+◌, ◌-◌, ◌/◌, ◌<◌, ◌≤◌, List, [], ◌∷◌, ◌++◌, map, Bool, true, false, ◌&&◌, ◌||◌, refl, sym, ap, subst, ◌∙◌, arith, add-one, map-id, max, Bor, ⊎_elim, eq-or-lt_of_le, get_or, Option, Some, None, unwrap_or, MatchOption, fold, sum_by}
use mathlib.Core.Bool.{and-true, or-false}
use Rattle.std.specs.List.{range_with_len, list_all, list_any, reduce}
use Rattle.std.proofs.lemmas.List.FromFn.{length-range_with_len, map-range_with_len_more}
use Rattle.std.proofs.lemmas.List.Folds.{list_all-append, list_any-append}
use Rattle.std.proofs.lemmas.List.Sums.{fold-append, sum_by-append}
use Rattle.below.specs.Below.{all, any, first, greatest, sum}
use Rattle.std.proofs.lemmas.Iterator.{YieldsList, YieldsList-from_range, YieldsList-from_map, first_from_Range, maps}
use Rattle.std.proofs.lemmas.Iterator.Search.{all_from_yields_List, any_from_yields_List}
use Rattle.std.proofs.lemmas.Iterator.Adapters.{at_most_from_yields_List, fits_from_length, option_map_id}
use Rattle.std.proofs.lemmas.Iterator.Consumers.{max_from_yields_List, sum_by_from_yields_List}
use Rattle.std.specs.Iterator.{ChecksAll, ChecksAny, FindsItem, PicksByCmp, Drains, ActsAs, ActsAsAt}
use Rattle.std.specs.Iterator.Adapters.{map_source, map_callee}
use Rattle.std.specs.Iterator.Runs.{EachRunFrom, WholeRun}
use Rattle.std.specs.Ordering.{nat_cmp, max_by_ordering}
use Rattle.std.specs.Fn.{Called}
use Rattle.std.specs.declared.iter.Map.{Map}
use Rattle.std.proofs.iter.Yields.{nat_range_steps}
use Rattle.std.specs.Bool.{⊤}
use denote.Param.Members.{Mut}
use Rattle.std.specs.declared.ops.Range.{Range}
use Rattle.below.proofs.Search.{first_is, first_absent}
use Rattle.below.specs.Listed.{listed}
use Rattle.below.proofs.Listed.{listed_is}
use Rattle.std.specs.Array.{IsFromFnResult, IsFromFnResultFrom}

values_more : {X : Type 0} (f : ℕ → X) (n : ℕ) → map f (range_with_len 0 (suc n)) ≡ map f (range_with_len 0 n) ++ (f n ∷ [])
values_more f n = ap (λ m. map f (range_with_len 0 m)) (sym (add-one n)) ∙ map-range_with_len_more f 0 n n (omega arith)

numbers_more : (n : ℕ) → range_with_len 0 (suc n) ≡ range_with_len 0 n ++ (n ∷ [])
numbers_more n = sym (map-id (range_with_len 0 (suc n))) ∙ values_more (λ k. k) n ∙ ap (λ z. z ++ (n ∷ [])) (map-id (range_with_len 0 n))

pub all_numbers : (n : ℕ) (p : ℕ → Bool) → list_all p (range_with_len 0 n) ≡ all n p
unfolding all
all_numbers zero p = refl
all_numbers (suc n) p = ap (list_all p) (numbers_more n) ∙ list_all-append p (range_with_len 0 n) (n ∷ []) ∙ rw (all_numbers n p) (ap (λ z. all n p && z) (and-true (p n)))

pub any_numbers : (n : ℕ) (p : ℕ → Bool) → list_any p (range_with_len 0 n) ≡ any n p
unfolding any
any_numbers zero p = refl
any_numbers (suc n) p = ap (list_any p) (numbers_more n) ∙ list_any-append p (range_with_len 0 n) (n ∷ []) ∙ rw (any_numbers n p) (ap (λ z. any n p || z) (or-false (p n)))

pub sum_numbers : (n : ℕ) (f : ℕ → ℕ) → sum_by f (range_with_len 0 n) ≡ sum n f
unfolding sum
sum_numbers zero f = refl
sum_numbers (suc n) f =
    ap (sum_by f) (numbers_more n) ∙ sum_by-append f (range_with_len 0 n) (n ∷ []) ∙ omega (arith, sum_numbers n f)

greatest_fold : (n : ℕ) (f : ℕ → ℕ) → fold max 0 (map f (range_with_len 0 n)) ≡ greatest n f
unfolding greatest
greatest_fold zero f = refl
greatest_fold (suc n) f = ap (fold max 0) (values_more f n) ∙ fold-append max 0 (map f (range_with_len 0 n)) (f n ∷ []) ∙ ap (λ z. max z (f n)) (greatest_fold n f)

reduce_fold : (xs : List ℕ) → unwrap_or (reduce max xs) 0 ≡ fold max 0 xs
reduce_fold [] = refl
reduce_fold (x ∷ xs) =
    let e : max 0 x ≡ x = omega arith in
    rw e

pub greatest_numbers : (n : ℕ) (f : ℕ → ℕ) → unwrap_or (reduce max (map f (range_with_len 0 n))) 0 ≡ greatest n f
greatest_numbers n f = reduce_fold (map f (range_with_len 0 n)) ∙ greatest_fold n f

pub first_number : (n : ℕ) (p : ℕ → Bool) (r : Option ℕ) → MatchOption r ((k : ℕ) → 0 ≤ k → k < n → p k ≡ false) (λ i. (0 ≤ i) × (i < n) × (p i ≡ true) × ((k : ℕ) → 0 ≤ k → k < i → p k ≡ false)) → unwrap_or r n ≡ first n p
first_number n p None h = sym (first_absent n p (λ k u. h k (omega arith) u))
first_number n p (Some i) h = sym (first_is n p i h.1 h.2 (λ k u. h.3 k (omega arith) u))

abbrev numbers_to : ℕ → Range ℕ
numbers_to n = record { start = 0; end = n }

-- the answer of a call over 0..n, from what the call's contract says ran and from what the closure answers
module _ {F : Type 0} {s : Range ℕ} (n : ℕ) where
  pub all_over : {g : Mut F (ℕ × Unit {0}) Bool} (p : ℕ → Bool) (u : Range ℕ) (f : F) (r : Bool) → ChecksAll nat_range_steps g s f r u → s ≡ numbers_to n → ActsAs g f p → r ≡ all n p
  all_over p u f r ran e c = all_from_yields_List p u f r ran (YieldsList-from_range 0 n n e (omega arith)) c ∙ all_numbers n p

  pub any_over : {g : Mut F (ℕ × Unit {0}) Bool} (p : ℕ → Bool) (u : Range ℕ) (f : F) (r : Bool) → ChecksAny nat_range_steps g s f r u → s ≡ numbers_to n → ActsAs g f p → r ≡ any n p
  any_over p u f r ran e c = any_from_yields_List p u f r ran (YieldsList-from_range 0 n n e (omega arith)) c ∙ any_numbers n p

  pub first_over : {g : Mut F (Bor ℕ × Unit {0}) Bool} (p : ℕ → Bool) (u : Range ℕ) (f : F) (r : Option ℕ) → FindsItem nat_range_steps g s f r u → s ≡ numbers_to n → ActsAsAt g f p
      → unwrap_or r n ≡ first n p
  first_over p u f r ran e c =
      first_number n p r (subst (λ z. MatchOption r ((k : ℕ) → z.start ≤ k → k < z.end → p k ≡ false) (λ i. (z.start ≤ i) × (i < z.end) × (p i ≡ true) × ((k : ℕ) → z.start ≤ k → k < i → p k ≡ false))) e
      (first_from_Range s u f r (λ k. p k ≡ true) (λ k. p k ≡ false) ran (λ x q k. sym (c x true q k).1) (λ x q k. ((c x false q k).0, sym (c x false q k).1))))

-- the same after `map`, whose closure computes h
module _ {F : Type 0} {g : Mut F (ℕ × Unit {0}) ℕ} {m : Map (Range ℕ) F} (n : ℕ) (h : ℕ → ℕ) (f : F) where
  mapped_over : map_source m ≡ numbers_to n → map_callee m ≡ f → ActsAs g f h → YieldsList (maps nat_range_steps g) (λ r. r) m (map h (range_with_len 0 n))
  mapped_over e a c = YieldsList-from_map g h (YieldsList-from_range 0 n n e (omega arith)) a c

  pub greatest_over : (r : Option ℕ) → PicksByCmp (maps nat_range_steps g) max_by_ordering nat_cmp m r → map_source m ≡ numbers_to n → map_callee m ≡ f → ActsAs g f h → unwrap_or r 0 ≡ greatest n h
  greatest_over r ran e a c =
      ap (λ o. unwrap_or o 0) (sym (option_map_id r) ∙ max_from_yields_List m r ran (mapped_over e a c)) ∙ greatest_numbers n h

  pub sum_over : (r : ℕ) → ((xs : List ℕ) × (⊤ → Drains (maps nat_range_steps g) m xs) × (r ≡ fold (λ a x. a + x) 0 xs)) → map_source m ≡ numbers_to n → map_callee m ≡ f → ActsAs g f h → r ≡ sum n h
  sum_over r ran e a c = sum_by_from_yields_List h (range_with_len 0 n) m r ran (mapped_over e a c) ∙ sum_numbers n h

-- the sum stays below top, of at most n values of which each is at most its nth part
module _ {F : Type 0} {g : Mut F (ℕ × Unit {0}) ℕ} {m : Map (Range ℕ) F} (k n top : ℕ) (f : F) (e : map_source m ≡ numbers_to k) (a : map_callee m ≡ f)
    (l : k ≤ n) (t : 0 < top) (c : (x r : ℕ) (q : F) → Called g f (x, tt) r q → (q ≡ f) × (r ≤ (top - 1) / n)) where
  -- for what `sum` requires
  pub sum_fits : EachRunFrom (maps nat_range_steps g) m (λ p. fold (λ a x. a + x) 0 p.items < top)
  sum_fits = fits_from_length g f n top (at_most_from_yields_List (YieldsList-from_range 0 k k e (omega arith)) (rw length-range_with_len l)) a t c

  -- for its answer
  pub sum_below : (r : ℕ) → WholeRun (maps nat_range_steps g) m (λ p. r ≡ fold (λ a x. a + x) 0 p.items) → r < top
  sum_below r run = rw run.3 (sum_fits run.0 run.0.seen run.1)

-- the table that `from_fn` fills with what the closure answers at each place
module _ {F A : Type 0} {g : Mut F (ℕ × Unit {0}) A} (h : ℕ → A) (d : A) (f : F) (l : List A) (c : ActsAs g f h) where
  places : (i n : ℕ) (p : F) → p ≡ f → IsFromFnResultFrom g p l i n → (k : ℕ) → i ≤ k → k < i + n → get_or l k d ≡ h k
  places i zero p e w k a b = absurd (omega arith)
  places i (suc n) p e w k a b =
      let t = c i w.1 w.0 (subst (λ z. Called g z (i, tt) w.1 w.0) e w.3) in
      ⊎_elim (λ q. rw (← q) (w.2.1 d ∙ t.1)) (λ u. places (i + 1) n w.0 t.0 w.4 k (omega arith) (omega arith)) (eq-or-lt_of_le a)

  pub listed_over : (n : ℕ) → IsFromFnResult g f l n → l ≡ listed n h
  listed_over n made = listed_is n h d l made.long (λ k u. places 0 n f refl made.each k (omega arith) (omega arith))
