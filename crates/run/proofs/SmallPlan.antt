-- What is read of any text is small: at most 8 rows, numbers of 16 bits, and beside a refusal a line or a row.
use Rattle.std.proofs.Common.{◌≡◌, refl, Bool, true, false, List, [], ◌∷◌, ℕ, zero, suc, ◌+◌, ◌≤◌, arith, ltb, eqb, length, get_or, set, replicate, ltb-true, ltb-false}
use Rattle.text.specs.Lines.{lines, onto, line_feed}
use Rattle.plan.specs.declared.Plan.{Plan}
use Rattle.plan.specs.Limits.{undeclared}
use Rattle.plan.specs.Plan.{place}
use Rattle.plan.specs.Admission.{first_negative}
use Rattle.reader.specs.declared.refusals.Refusal.{Refusal}
use Rattle.reader.specs.declared.refusals.Refusal.TheVariants.{TooLong, NotGrammar, KindOrder, TooManyRows, NoSuchRow, OutOfRange, Twice, TwoSubsystems, AboveBudget, NoSubsystem, NegativeMargin}
use Rattle.reader.specs.declared.Line.{Line}
use Rattle.reader.specs.declared.Line.TheVariants.{Subsystem, Task, Resource, Uses}
use Rattle.std.specs.Prelude.{Option, Some, None, Result, Ok, Err}
use Rattle.reader.specs.Numbers.{number, beside}
use Rattle.reader.specs.Line.{line_of, kind_of}
use Rattle.reader.specs.Reading.{most_bytes, empty_plan, first_of, judged, opened, with_subsystem, with_task, with_resource, with_use, with_line, read_from, judged_rowless, listed_reading, judged_margins, reading}
use Rattle.reader.specs.Room.{Counts, Room}
use Rattle.reader.proofs.Room.{room, counts_empty, counts_kept}

-- a list of numbers of 16 bits
abbrev pub AllSmall : List ℕ → Type 0
AllSmall l = (i : ℕ) → get_or l i 0 ≤ 65535

set_small : (l : List ℕ) (j v : ℕ) → v ≤ 65535 → AllSmall l → AllSmall (set l j v)
set_small [] j v h w i = w i
set_small (x ∷ l) zero v h w zero = h
set_small (x ∷ l) zero v h w (suc i) = w (suc i)
set_small (x ∷ l) (suc j) v h w zero = w zero
set_small (x ∷ l) (suc j) v h w (suc i) = set_small l j v h (λ k. w (suc k)) i

opened_small : (n r : ℕ) (l : List ℕ) → AllSmall l → AllSmall (opened n r l)
unfolding opened
opened_small zero r l w = w
opened_small (suc n) r l w = set_small (opened n r l) (place n r) undeclared (omega arith) (opened_small n r l w)

zeros_small : (m : ℕ) → AllSmall (replicate m 0)
zeros_small zero i = omega arith
zeros_small (suc m) zero = omega arith
zeros_small (suc m) (suc i) = zeros_small m i

pub record Small (p : Plan) : Type 0 where
  pub counts : Counts p
  pub periods_small : AllSmall p.periods
  pub budgets_small : AllSmall p.budgets
  pub lengths_small : AllSmall p.lengths

small_empty : Small empty_plan
unfolding empty_plan
small_empty = record { counts = counts_empty; periods_small = zeros_small 8; budgets_small = zeros_small 8; lengths_small = zeros_small 512 }

-- one line more
small_line : (p : Plan) (l : Option Line) → Room p l → Small p → Small (with_line p l)
unfolding with_line with_subsystem with_task with_resource with_use
small_line p (Some (Subsystem period budget)) r w = record {
  counts = counts_kept p (Some (Subsystem period budget)) w.counts r;
  periods_small = set_small p.periods p.subsystems period (omega arith) w.periods_small;
  budgets_small = set_small p.budgets p.subsystems budget (omega arith) w.budgets_small;
  lengths_small = w.lengths_small;
}
small_line p (Some (Task subsystem)) r w = record {
  counts = counts_kept p (Some (Task subsystem)) w.counts r;
  periods_small = w.periods_small;
  budgets_small = w.budgets_small;
  lengths_small = w.lengths_small;
}
small_line p (Some (Resource kind)) r w = record {
  counts = counts_kept p (Some (Resource kind)) w.counts r;
  periods_small = w.periods_small;
  budgets_small = w.budgets_small;
  lengths_small = opened_small p.tasks p.resources p.lengths w.lengths_small;
}
small_line p (Some (Uses task resource length)) r w = record {
  counts = counts_kept p (Some (Uses task resource length)) w.counts r;
  periods_small = w.periods_small;
  budgets_small = w.budgets_small;
  lengths_small = set_small p.lengths (place task resource) length (omega arith) w.lengths_small;
}
small_line p None r w = w

-- what is said of line n names line n at most
abbrev Low : ℕ → List (Bool × Refusal) → Type 0
Low n [] = Unit
Low n (t ∷ ts) = (beside t.1 ≤ n) × Low n ts

abbrev SaidLow : ℕ → Result Unit Refusal → Type 0
SaidLow n (Ok u) = Unit
SaidLow n (Err e) = beside e ≤ n

first_low : (n : ℕ) (ts : List (Bool × Refusal)) → Low n ts → SaidLow n (first_of ts)
unfolding first_of
first_low n [] w = tt
first_low n (t ∷ ts) w = go t.0 (first_low n ts w.1)
  where
    go : (b : Bool) → SaidLow n (first_of ts) → SaidLow n (elim b [ true ↦ Err t.1 | false ↦ first_of ts ])
    go true h = w.0
    go false h = h

judged_low : (p : Plan) (last n : ℕ) (l : Option Line) → SaidLow n (judged p last n l)
unfolding judged
judged_low p last n l =
    let s : n ≤ n = omega arith in
    first_low n _ (s, (s, (s, (s, (s, (s, (s, (s, tt))))))))

-- a reading with a small plan, or with a number of at most m beside its refusal
abbrev pub Modest : ℕ → Result Plan Refusal → Type 0
Modest m (Ok p) = Small p
Modest m (Err e) = beside e ≤ m

modest_more : (m n : ℕ) (r : Result Plan Refusal) → m ≤ n → Modest m r → Modest n r
modest_more m n (Ok p) h w = w
modest_more m n (Err e) h w = omega arith

small_next : (p : Plan) (last n : ℕ) (l : Option Line) {u : Unit} → Small p → judged p last n l ≡ Ok u → Small (with_line p l)
small_next p last n l w t = small_line p l (room p last n l w.counts t) w

modest_read : (ls : List (List ℕ)) (n last : ℕ) (p : Plan) → Small p → Modest (n + length ls) (read_from ls n last p)
unfolding read_from
modest_read [] n last p w = w
modest_read (l ∷ ls) n last p w =
    go (judged p last n (line_of l)) refl (judged_low p last n (line_of l)) (modest_read ls (n + 1) (kind_of (line_of l)) (with_line p (line_of l)))
  where
    go : (j : Result Unit Refusal) → judged p last n (line_of l) ≡ j → SaidLow n j
        → (Small (with_line p (line_of l)) → Modest (n + 1 + length ls) (read_from ls (n + 1) (kind_of (line_of l)) (with_line p (line_of l))))
        → Modest (n + suc (length ls)) (elim j [ Ok u ↦ read_from ls (n + 1) (kind_of (line_of l)) (with_line p (line_of l)) | Err e ↦ Err e ])
    go (Ok u) t h ih =
        modest_more (n + 1 + length ls) (n + suc (length ls)) (read_from ls (n + 1) (kind_of (line_of l)) (with_line p (line_of l))) (omega arith)
        (ih (small_next p last n (line_of l) w t))
    go (Err e) t h ih = omega arith

-- no more lines than bytes
onto_few : (b : ℕ) (ls : List (List ℕ)) → length (onto b ls) ≤ suc (length ls)
unfolding onto
onto_few b [] = omega arith
onto_few b (l ∷ ls) = omega arith

lines_few : (t : List ℕ) → length (lines t) ≤ length t
unfolding lines
lines_few [] = omega arith
lines_few (b ∷ bs) = go (eqb b line_feed) (lines bs) (lines_few bs)
  where
    go : (x : Bool) (ls : List (List ℕ)) → length ls ≤ length bs → length {A = List ℕ} (elim x [ true ↦ (b ∷ []) ∷ ls | false ↦ onto b ls ]) ≤ suc (length bs)
    go true ls h = omega arith
    go false ls h = omega (arith, onto_few b ls)

modest_rowless : (p : Plan) → Small p → Modest 16385 (judged_rowless p)
unfolding judged_rowless
modest_rowless p w = go (eqb p.subsystems 0)
  where
    go : (a : Bool) → Modest 16385 (elim a [ true ↦ Err NoSubsystem | false ↦ Ok p ])
    go true = omega arith
    go false = w

modest_margins : (p : Plan) → Small p → Modest 16385 (judged_margins p)
unfolding judged_margins
modest_margins p w = go (ltb (first_negative p) p.subsystems) refl
  where
    go : (b : Bool) → ltb (first_negative p) p.subsystems ≡ b → Modest 16385 (elim b [ true ↦ Err (NegativeMargin (first_negative p)) | false ↦ Ok p ])
    go true t = omega (arith, ltb-true (first_negative p) p.subsystems t, w.counts.subsystems)
    go false t = w

pub modest_listed : (text : List ℕ) → Modest 16385 (listed_reading text)
unfolding listed_reading
modest_listed text = go (ltb most_bytes (length text)) refl
  where
    ended : (r : Result Plan Refusal) → Modest 16385 r → Modest 16385 (elim r [ Ok p ↦ judged_rowless p | Err e ↦ Err e ])
    ended (Ok p) w = modest_rowless p w
    ended (Err e) w = w

    go : (b : Bool) → ltb most_bytes (length text) ≡ b
        → Modest 16385 (elim b [ true ↦ Err TooLong | false ↦ elim (read_from (lines text) 1 0 empty_plan) [ Ok p ↦ judged_rowless p | Err e ↦ Err e ] ])
    go true t = omega arith
    go false t =
        ended (read_from (lines text) 1 0 empty_plan)
        (modest_more (1 + length (lines text)) 16385 (read_from (lines text) 1 0 empty_plan) (omega (arith, lines_few text, ltb-false most_bytes (length text) t))
        (modest_read (lines text) 1 0 empty_plan small_empty))

pub modest_reading : (text : List ℕ) → Modest 16385 (reading text)
unfolding reading
modest_reading text = go (listed_reading text) (modest_listed text)
  where
    go : (r : Result Plan Refusal) → Modest 16385 r → Modest 16385 (elim r [ Ok p ↦ judged_margins p | Err e ↦ Err e ])
    go (Ok p) w = modest_margins p w
    go (Err e) w = w

-- numbers of refusals
pub number_most : (e : Refusal) → number e ≤ 30
number_most TooLong = omega arith
number_most (NotGrammar n) = omega arith
number_most (KindOrder n) = omega arith
number_most (TooManyRows n) = omega arith
number_most (NoSuchRow n) = omega arith
number_most (OutOfRange n) = omega arith
number_most (Twice n) = omega arith
number_most (TwoSubsystems n) = omega arith
number_most (AboveBudget n) = omega arith
number_most NoSubsystem = omega arith
number_most (NegativeMargin n) = omega arith
