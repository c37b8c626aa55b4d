-- Laws of the rows of some lines: what one more line at the end changes, and what it keeps.
use Rattle.std.proofs.Common.{◌≡◌, refl, sym, ap, ◌∙◌, Bool, true, false, List, [], ◌∷◌, ◌++◌, ℕ, zero, suc, ◌+◌, ◌<◌, arith, eqb, length, eqb-true, eq-eqb, ne_eqb, Option, Some, None}
use lib.ListN.{get_or-append}
use lib.Seq.{get_or-append_seam}
use Rattle.reader.specs.declared.Line.{Line}
use Rattle.reader.specs.declared.Line.TheVariants.{Task}
use Rattle.reader.specs.Line.{kind_of}
use Rattle.exactly.specs.Listed.{line_at, count_of, row_of, InOrder}

module _ (kind : ℕ) (l : Option Line) (ls : List (Option Line)) where
  -- the first line is of the kind
  count_of_hit : eqb (kind_of l) kind ≡ true → count_of kind (l ∷ ls) ≡ suc (count_of kind ls)
  unfolding count_of
  count_of_hit e = rw e (omega arith)

  row_of_first : eqb (kind_of l) kind ≡ true → row_of kind (l ∷ ls) zero ≡ l
  unfolding row_of
  row_of_first e = rw (e, row_of)

  row_of_later : eqb (kind_of l) kind ≡ true → (n : ℕ) → row_of kind (l ∷ ls) (suc n) ≡ row_of kind ls n
  unfolding row_of
  row_of_later e n = rw (e, row_of)

  -- the first line is of another kind
  count_of_miss : eqb (kind_of l) kind ≡ false → count_of kind (l ∷ ls) ≡ count_of kind ls
  unfolding count_of
  count_of_miss e = rw e (omega arith)

  row_of_miss : eqb (kind_of l) kind ≡ false → (n : ℕ) → row_of kind (l ∷ ls) n ≡ row_of kind ls n
  unfolding row_of
  row_of_miss e zero = rw (e, row_of)
  row_of_miss e (suc n) = rw (e, row_of)

-- one more line of the kind is one more row
pub count_of_same : (kind : ℕ) (ls : List (Option Line)) (l : Option Line) → kind_of l ≡ kind → count_of kind (ls ++ (l ∷ [])) ≡ count_of kind ls + 1
unfolding count_of
count_of_same kind [] l e = rw (eq-eqb (kind_of l) kind e)
count_of_same kind (x ∷ ls) l e = omega (arith, count_of_same kind ls l e)

-- and one of another kind is none
pub count_of_other : (kind : ℕ) (ls : List (Option Line)) (l : Option Line) → (kind_of l ≡ kind → ⊥) → count_of kind (ls ++ (l ∷ [])) ≡ count_of kind ls
unfolding count_of
count_of_other kind [] l h = rw (ne_eqb (kind_of l) kind h)
count_of_other kind (x ∷ ls) l h = omega (arith, count_of_other kind ls l h)

-- the new row is the last one
pub row_of_new : (kind : ℕ) (ls : List (Option Line)) (l : Option Line) → kind_of l ≡ kind → row_of kind (ls ++ (l ∷ [])) (count_of kind ls) ≡ l
unfolding count_of
row_of_new kind [] l e = row_of_first kind l [] (eq-eqb (kind_of l) kind e)
row_of_new kind (x ∷ ls) l e = go (eqb (kind_of x) kind) refl (row_of_new kind ls l e)
  where
    go : (b : Bool) → eqb (kind_of x) kind ≡ b → row_of kind (ls ++ (l ∷ [])) (count_of kind ls) ≡ l
        → row_of kind (x ∷ (ls ++ (l ∷ []))) (count_of kind (x ∷ ls)) ≡ l
    go true q ih = rw (count_of_hit kind x ls q, row_of_later kind x (ls ++ (l ∷ [])) q (count_of kind ls)) ih
    go false q ih = rw (count_of_miss kind x ls q, row_of_miss kind x (ls ++ (l ∷ [])) q (count_of kind ls)) ih

-- every other row is what it was
pub row_of_kept : (kind : ℕ) (ls : List (Option Line)) (l : Option Line) (n : ℕ) → (kind_of l ≡ kind → n ≡ count_of kind ls → ⊥)
    → row_of kind (ls ++ (l ∷ [])) n ≡ row_of kind ls n
unfolding count_of row_of
row_of_kept kind [] l n h = go (eqb (kind_of l) kind) refl n h
  where
    go : (b : Bool) → eqb (kind_of l) kind ≡ b → (n : ℕ) → (kind_of l ≡ kind → n ≡ 0 → ⊥) → row_of kind (l ∷ []) n ≡ row_of kind [] n
    go true q zero h = absurd (h (eqb-true (kind_of l) kind q) refl)
    go true q (suc n) h = row_of_later kind l [] q n
    go false q n h = row_of_miss kind l [] q n
row_of_kept kind (x ∷ ls) l n h = go (eqb (kind_of x) kind) refl n h (row_of_kept kind ls l)
  where
    go : (b : Bool) → eqb (kind_of x) kind ≡ b → (n : ℕ) → (kind_of l ≡ kind → n ≡ count_of kind (x ∷ ls) → ⊥)
        → ((n : ℕ) → (kind_of l ≡ kind → n ≡ count_of kind ls → ⊥) → row_of kind (ls ++ (l ∷ [])) n ≡ row_of kind ls n)
        → row_of kind (x ∷ (ls ++ (l ∷ []))) n ≡ row_of kind (x ∷ ls) n
    go true q zero h ih = rw (row_of_first kind x (ls ++ (l ∷ [])) q, row_of_first kind x ls q)
    go true q (suc n) h ih =
        rw (row_of_later kind x (ls ++ (l ∷ [])) q n, row_of_later kind x ls q n)
        (ih n (λ e c. h e (ap suc c ∙ sym (count_of_hit kind x ls q))))
    go false q n h ih =
        rw (row_of_miss kind x (ls ++ (l ∷ [])) q n, row_of_miss kind x ls q n)
        (ih n (λ e c. h e (c ∙ sym (count_of_miss kind x ls q))))

-- where no line is of the kind there is no row of it
count_of_none : (kind : ℕ) (ls : List (Option Line)) → ((i : ℕ) → i < length ls → kind_of (line_at ls i) ≡ kind → ⊥) → count_of kind ls ≡ 0
unfolding count_of line_at
count_of_none kind [] h = refl
count_of_none kind (x ∷ ls) h =
    rw (ne_eqb (kind_of x) kind (h 0 (omega arith)), count_of_none kind ls (λ i u. h (suc i) (omega arith)))

-- above a T line that is in order no R line stands
pub no_resource_yet : (ls : List (Option Line)) (s : ℕ) → InOrder ls (Some (Task s)) → count_of 2 ls ≡ 0
unfolding kind_of
no_resource_yet ls s o = count_of_none 2 ls (λ i u e. omega (arith, o i u))

-- the lines with one more at the end
pub line_at_old : (ls : List (Option Line)) (l : Option Line) (i : ℕ) → i < length ls → line_at (ls ++ (l ∷ [])) i ≡ line_at ls i
unfolding line_at
line_at_old ls l i h = get_or-append ls (l ∷ []) None i h

pub line_at_new : (ls : List (Option Line)) (l : Option Line) → line_at (ls ++ (l ∷ [])) (length ls) ≡ l
unfolding line_at
line_at_new ls l = get_or-append_seam ls l [] None
