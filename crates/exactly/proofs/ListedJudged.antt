-- A line is judged by the first condition that it breaks, and reading on stops at the first line that breaks one.
use mathlib.Core.Path.{◌≡◌, refl, sym, ap, ◌∙◌}
use mathlib.Core.Logic.{⊎_elim}
use mathlib.Core.Bool.{Bool, true, false}
use mathlib.Core.List.{List, [], ◌∷◌, ◌++◌, map}
use Prim.Native.Nat.{ℕ, zero, suc, ◌+◌, ◌≤◌, ◌<◌}
use native.Mathlib.Nat.{not-suc-le-zero}
use native.Mathlib.Numerals.{add-one}
use native.Mathlib.Omega.{arith}
use lib.ListN.{length, take, drop, length-drop}
use lib.Seq.{take-suc, take_all, drop-cons}
use Rattle.below.proofs.Search.{last_or_before}
use Rattle.plan.specs.declared.Plan.{Plan}
use Rattle.reader.specs.declared.refusals.Refusal.{Refusal}
use Rattle.reader.specs.declared.Line.{Line}
use Rattle.reader.specs.Numbers.{number, beside}
use Rattle.reader.specs.Line.{line_of, kind_of}
use Rattle.reader.specs.Reading.{empty_plan, first_of, judged, with_line, read_from}
use Rattle.exactly.specs.Listed.{line_at, Condition, LineMeets, plan_after}
use Rattle.exactly.proofs.ListedTied.{Tied}
use Rattle.exactly.proofs.ListedPairs.{tied_line}
use Rattle.exactly.proofs.ListedTests.{Decides, decides_grammar, decides_order, decides_rows_left, decides_rows_there, decides_range, decides_once, decides_one_subsystem, decides_budget}
use Rattle.std.proofs.Common.{Option, Some, None, Result, Ok, Err}

-- what is said of line n, which tells the first of some conditions that is broken, if one is
pub data Judgement (C : ℕ → Type 0) (n : ℕ) : Result Unit Refusal → Type 0 where
  fine : ((c : ℕ) → C c) → Judgement C n (Ok tt)
  bad : (v : Refusal) (c : ℕ) → ((d : ℕ) → d < c → C d) → (C c → ⊥) → number v ≡ 21 + c → beside v ≡ n → Judgement C n (Err v)

-- tests in the order of the conditions from c on, each with its refusal; after the last, no condition is left
abbrev Tries : (ℕ → Type 0) → ℕ → ℕ → List (Bool × Refusal) → Type 0
Tries C n c [] = ((d : ℕ) → d < c → C d) → (d : ℕ) → C d
Tries C n c (t ∷ ts) = (((d : ℕ) → d < c → C d) → Decides t.0 (C c)) × (number t.1 ≡ 21 + c) × (beside t.1 ≡ n) × Tries C n (suc c) ts

first_broken : (C : ℕ → Type 0) (n c : ℕ) (ts : List (Bool × Refusal)) → Tries C n c ts → ((d : ℕ) → d < c → C d) → Judgement C n (first_of ts)
unfolding first_of
first_broken C n c [] w met = fine (w met)
first_broken C n c (t ∷ ts) w met = go t.0 (w.0 met) (first_broken C n (suc c) ts w.3)
  where
    go : (b : Bool) → Decides b (C c) → (((d : ℕ) → d < suc c → C d) → Judgement C n (first_of ts))
        → Judgement C n (elim b [ true ↦ Err t.1 | false ↦ first_of ts ])
    go true d f = bad t.1 c met (d.broken refl) w.1 w.2
    go false d f = f (λ j h. ⊎_elim (here j) (met j) (last_or_before h))
      where
        here : (j : ℕ) → j ≡ c → C j
        here j q = rw q (d.met refl)

-- eight conditions are all
beyond : (above : List (Option Line)) (l : Option Line) → ((d : ℕ) → d < 8 → Condition d above l) → (d : ℕ) → Condition d above l
beyond above l f zero = f 0 (omega arith)
beyond above l f (suc zero) = f 1 (omega arith)
beyond above l f (suc (suc zero)) = f 2 (omega arith)
beyond above l f (suc (suc (suc zero))) = f 3 (omega arith)
beyond above l f (suc (suc (suc (suc zero)))) = f 4 (omega arith)
beyond above l f (suc (suc (suc (suc (suc zero))))) = f 5 (omega arith)
beyond above l f (suc (suc (suc (suc (suc (suc zero)))))) = f 6 (omega arith)
beyond above l f (suc (suc (suc (suc (suc (suc (suc zero))))))) = f 7 (omega arith)
beyond above l f (suc (suc (suc (suc (suc (suc (suc (suc c)))))))) = tt

-- what is said of a line tells the first condition that it breaks
judge : (above : List (Option Line)) (last : ℕ) (p : Plan) → Tied above last p → (n : ℕ) (l : Option Line) → Judgement (λ c. Condition c above l) n (judged p last n l)
unfolding judged
judge above last p w n l =
    first_broken (λ c. Condition c above l) n 0 _ (
      λ m. decides_grammar l,
      refl,
      refl,
      (
        λ m. decides_order above last p w l,
        refl,
        refl,
        (
          λ m. decides_rows_left above last p w l,
          refl,
          refl,
          (
            λ m. decides_rows_there above last p w l,
            refl,
            refl,
            (
              λ m. decides_range above last p w l,
              refl,
              refl,
              (
                λ m. decides_once above last p w l (m 3 (omega arith)),
                refl,
                refl,
                (
                  λ m. decides_one_subsystem above last p w l (m 3 (omega arith)),
                  refl,
                  refl,
                  (
                    λ m. decides_budget above last p w l,
                    refl,
                    refl,
                    beyond above l,
                  ),
                ),
              ),
            ),
          ),
        ),
      ),
    )
    (λ d h. absurd (not-suc-le-zero h))

-- the plan after one line more
pub plan_after_line : (p : Plan) (ls : List (Option Line)) (l : Option Line) → plan_after p (ls ++ (l ∷ [])) ≡ with_line (plan_after p ls) l
unfolding plan_after
plan_after_line p [] l = refl
plan_after_line p (x ∷ ls) l = plan_after_line (with_line p x) ls l

-- what reading on comes to: the plan of all lines, which meet their conditions, or the first line that breaks one
pub data Outcome (all : List (Option Line)) : Result Plan Refusal → Type 0 where
  whole : ((i : ℕ) → i < length all → LineMeets all i) → (last : ℕ) → Tied all last (plan_after empty_plan all)
      → Outcome all (Ok (plan_after empty_plan all))
  stopped : (v : Refusal) (i c : ℕ) → i < length all → ((j : ℕ) → j < i → LineMeets all j)
      → ((d : ℕ) → d < c → Condition d (take i all) (line_at all i))
      → (Condition c (take i all) (line_at all i) → ⊥)
      → number v ≡ 21 + c → beside v ≡ i + 1 → Outcome all (Err v)

module _ (all : List (Option Line)) where
  -- the line that comes next
  next_there : (i : ℕ) (l : Option Line) (ls : List (Option Line)) → drop i all ≡ l ∷ ls → i < length all
  next_there i l ls e = omega (arith, sym (ap length e) ∙ length-drop i all)

  next_line : (i : ℕ) (l : Option Line) (ls : List (Option Line)) → drop i all ≡ l ∷ ls → line_at all i ≡ l
  unfolding line_at
  next_line i l ls e = cc (drop-cons all i None (next_there i l ls e))

  next_rest : (i : ℕ) (l : Option Line) (ls : List (Option Line)) → drop i all ≡ l ∷ ls → drop (suc i) all ≡ ls
  next_rest i l ls e = cc (drop-cons all i None (next_there i l ls e))

  next_above : (i : ℕ) (l : Option Line) (ls : List (Option Line)) → drop i all ≡ l ∷ ls → take (suc i) all ≡ take i all ++ (l ∷ [])
  unfolding line_at
  next_above i l ls e = rw (← next_line i l ls e) (take-suc all i None (next_there i l ls e))

  -- the lines read so far, all of which meet their conditions, and the plan read from them
  pub record SoFar (i last : ℕ) (p : Plan) : Type 0 where
    pub tied : Tied (take i all) last p
    pub meets : (j : ℕ) → j < i → LineMeets all j
    pub plan_is : p ≡ plan_after empty_plan (take i all)

  so_far_next : (i last : ℕ) (p : Plan) (l : Option Line) (ls : List (Option Line)) → drop i all ≡ l ∷ ls → SoFar i last p → ((c : ℕ) → Condition c (take i all) l)
      → SoFar (suc i) (kind_of l) (with_line p l)
  so_far_next i last p l ls e w m = record {
    tied = rw (next_above i l ls e) (tied_line (take i all) last p l w.tied m);
    meets = λ j h. ⊎_elim (here j) (w.meets j) (last_or_before h);
    plan_is = rw (next_above i l ls e, plan_after_line empty_plan (take i all) l, ← w.plan_is);
  }
    where
      here : (j : ℕ) → j ≡ i → LineMeets all j
      here j q = rw (q, next_line i l ls e) m

  -- at the end
  outcome_end : (i last : ℕ) (p : Plan) → drop i all ≡ [] → SoFar i last p → Outcome all (Ok p)
  outcome_end i last p e w = rw (w.plan_is, same) (whole (λ j h. w.meets j (omega (arith, done))) last (rw (w.plan_is, same) at w.tied))
    where
      done : length all ≤ i
      done = omega (arith, sym (ap length e) ∙ length-drop i all)

      same : take i all ≡ all
      same = take_all i all done

  -- at one more line, by what is said of it
  outcome_line : (i last : ℕ) (p : Plan) (l : Option Line) (ls : List (Option Line)) → drop i all ≡ l ∷ ls → SoFar i last p → (v : Result Unit Refusal) → Judgement (λ c. Condition c (take i all) l) (i + 1) v
      → (r : Result Plan Refusal) → (SoFar (suc i) (kind_of l) (with_line p l) → Outcome all r) → Outcome all (elim v [ Ok u ↦ r | Err e ↦ Err e ])
  outcome_line i last p l ls e w v j r f = go j
    where
      go : {v : Result Unit Refusal} → Judgement (λ c. Condition c (take i all) l) (i + 1) v → Outcome all (elim v [ Ok u ↦ r | Err e ↦ Err e ])
      go (fine m) = f (so_far_next i last p l ls e w m)
      go (bad v c m b n k) =
          stopped v i c (next_there i l ls e) w.meets (rw (next_line i l ls e) m) (rw (next_line i l ls e) b) n k

  pub outcome : (rest : List (List ℕ)) (i last : ℕ) (p : Plan) → drop i all ≡ map line_of rest → SoFar i last p → Outcome all (read_from rest (i + 1) last p)
  unfolding read_from
  outcome [] i last p e w = outcome_end i last p e w
  outcome (l ∷ rest) i last p e w =
      outcome_line i last p (line_of l) (map line_of rest) e w (judged p last (i + 1) (line_of l)) (judge (take i all) last p w.tied (i + 1) (line_of l))
      (read_from rest (i + 1 + 1) (kind_of (line_of l)) (with_line p (line_of l)))
      (λ s. rw (add-one i) (outcome rest (suc i) (kind_of (line_of l)) (with_line p (line_of l)) (next_rest i (line_of l) (map line_of rest) e) s))
