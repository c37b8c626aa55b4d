-- The U lines of a plan's text read back: each passes, and what is left out was undeclared already.
use Rattle.std.proofs.Common.{◌≡◌, refl, sym, ap, ◌∙◌, ⊎_elim, Bool, true, false, not, ◌&&◌, cond, List, [], ◌∷◌, ℕ, suc, ◌≤◌, ◌<◌, le_of_lt, arith, leb, eqb, get_or, set, le-ltb, le-leb, eq-eqb, eqb-true, Some}
use lib.Seq.{set-get_or}
use borrow.Author.Tests.{lt-leb, not-false}
use Rattle.below.specs.Below.{any}
use Rattle.below.proofs.Search.{any_absent}
use Rattle.text.specs.Bytes.{bytes}
use Rattle.text.specs.Numbers.{decimal}
use Rattle.plan.specs.declared.Plan.{Plan}
use Rattle.plan.specs.Limits.{undeclared}
use Rattle.plan.specs.Plan.{budget, owner, is_global, place, length_of, declares}
use Rattle.plan.proofs.Facts.{row_there}
use Rattle.reader.specs.declared.Line.TheVariants.{Uses}
use Rattle.reader.specs.Line.{kind_of}
use Rattle.reader.specs.Conditions.{not_grammar, kind_order, too_many_rows, no_such_row, out_of_range, twice, two_subsystems, above_budget}
use Rattle.reader.specs.Reading.{with_line, with_use}
use Rattle.exactly.specs.TextOf.{tabbed, texts, use_text}
use Rattle.exactly.proofs.PlanShape.{declares_not, declares_same}
use Rattle.exactly.proofs.ListedTied.{Stands}
use Rattle.exactly.proofs.SoundPlan.{LengthFits, Sound}
use Rattle.exactly.proofs.SoundFacts.{sound_ranged}
use Rattle.exactly.proofs.TextOfDecimal.{decimal_plain}
use Rattle.exactly.proofs.TextOfLines.{use_line}
use Rattle.exactly.proofs.TextOfReads.{Reads, reads_none, reads_texts, Passes}
use Rattle.exactly.proofs.TextOfTables.{opened_to, opened_to_there}
use Rattle.exactly.proofs.TextOfRows.{with_lengths, reads_fields}
use Rattle.exactly.proofs.TextOfEntered.{entered, entered_to, entered_else, entered_to_there, entered_to_else}

module _ (p : Plan) (w : Sound p) where
  -- the plan read before the U line of task t and resource n
  before : ℕ → ℕ → Plan
  before t n = with_lengths p (entered p t n (entered_to p t))

  module _ (t n : ℕ) (ht : t < p.tasks) (hn : n < p.resources) where
    room : n < 16
    room = omega (arith, w.kinds_fit.few)

    q : Plan
    q = before t n

    -- at this resource the tasks above have their lengths, and the others are undeclared
    above_length : (k : ℕ) → k < t → length_of q k n ≡ length_of p k n
    unfolding q before with_lengths length_of
    above_length k h =
        entered_else p t n (entered_to p t) (le_of_lt room) k n room (λ e v. omega arith) ∙ entered_to_there p w t (le_of_lt ht) k n h hn

    below_length : (k : ℕ) → t ≤ k → k < p.tasks → length_of q k n ≡ undeclared
    unfolding q before with_lengths length_of
    below_length k h u =
        entered_else p t n (entered_to p t) (le_of_lt room) k n room (λ e v. omega arith)
        ∙ entered_to_else p w t k n room (λ x y. omega arith)
        ∙ opened_to_there p.tasks p.resources w.owners_fit.few w.kinds_fit.few k n u hn

    module _ (d : declares p t n ≡ true) where
      stands : Stands p t n
      stands = record { task_there = ht; resource_there = hn; declared = d }

      fits : LengthFits p t n
      fits = w.uses_fit.fits t n stands

      range : out_of_range q (Some (Uses t n (length_of p t n))) ≡ false
      unfolding out_of_range q before with_lengths is_global
      range = go (is_global p n) refl
        where
          m : ℕ
          m = length_of p t n

          go : (b : Bool) → is_global p n ≡ b → not (cond b (leb 1 m && leb m 10000) (eqb m 0)) ≡ false
          go true e = rw (le-leb 1 m (fits.global e).0, le-leb m 10000 (fits.global e).1)
          go false e = rw (eq-eqb m 0 (fits.local e))

      within : above_budget q (Some (Uses t n (length_of p t n))) ≡ false
      unfolding above_budget q before with_lengths budget owner
      within = le-ltb (budget p (owner p t)) (length_of p t n) (go (is_global p n) refl)
        where
          go : (b : Bool) → is_global p n ≡ b → length_of p t n ≤ budget p (owner p t)
          go true e = (fits.global e).2
          go false e = omega (arith, fits.local e)

      -- a task that declares this resource so far is of the same subsystem, if the resource is local
      not_other : is_global p n ≡ false → (k : ℕ) → k < p.tasks → (declares q k n && not (eqb (owner p k) (owner p t))) ≡ false
      not_other l k u = ⊎_elim above below (row_there k t)
        where
          below : t ≤ k → (declares q k n && not (eqb (owner p k) (owner p t))) ≡ false
          below h = rw (declares_not q k n (below_length k h u))

          shared : k < t → declares q k n ≡ true → owner p k ≡ owner p t
          shared h e =
              w.uses_fit.one_owner n k t l
              (record { task_there = u; resource_there = hn; declared = sym (declares_same q p k n (above_length k h)) ∙ e })
              stands

          go : k < t → (c : Bool) → declares q k n ≡ c → (c && not (eqb (owner p k) (owner p t))) ≡ false
          go h true e = rw (eq-eqb (owner p k) (owner p t) (shared h e))
          go h false e = refl

          above : k < t → (declares q k n && not (eqb (owner p k) (owner p t))) ≡ false
          above h = go h (declares q k n) refl

      one_subsystem : two_subsystems q (Some (Uses t n (length_of p t n))) ≡ false
      unfolding two_subsystems q before with_lengths is_global owner
      one_subsystem = go (is_global p n) refl
        where
          go : (b : Bool) → is_global p n ≡ b → (not b && any p.tasks (λ k. declares q k n && not (eqb (owner p k) (owner p t)))) ≡ false
          go true e = refl
          go false e = any_absent p.tasks (λ k. declares q k n && not (eqb (owner p k) (owner p t))) (not_other e)

      passes : (last : ℕ) → last ≤ 3 → Passes q last (Some (Uses t n (length_of p t n)))
      unfolding not_grammar kind_order too_many_rows no_such_row twice kind_of q before with_lengths
      passes last u = record {
        grammar = refl;
        order = le-ltb 3 last u;
        rows_left = refl;
        rows_there = rw (lt-leb p.tasks t ht, lt-leb p.resources n hn);
        range = range;
        once = declares_not q t n (below_length t (omega arith) ht);
        one_subsystem = one_subsystem;
        within = within;
      }

      small : length_of p t n ≤ 99999
      unfolding length_of
      small = omega (arith, (sound_ranged p w).lengths_small (place t n))

      declared_reads : Reads 3 3 (tabbed (bytes "U" ∷ decimal t ∷ decimal n ∷ decimal (length_of p t n) ∷ [])) q (before t (suc n))
      unfolding kind_of bytes
      declared_reads =
          reads_fields 3 (bytes "U") (decimal t ∷ decimal n ∷ decimal (length_of p t n) ∷ []) q (before t (suc n)) (Some (Uses t n (length_of p t n)))
          (omega arith)
          (decimal_plain t, (decimal_plain n, (decimal_plain (length_of p t n), tt)))
          (use_line t n (length_of p t n) (omega (arith, w.owners_fit.few)) (omega arith) small)
          refl
          passes
          next
        where
          next : with_line q (Some (Uses t n (length_of p t n))) ≡ before t (suc n)
          next = unfold with_line with_use q before with_lengths entered in refl

    -- an undeclared pair has no line and keeps its mark
    undeclared_same : declares p t n ≡ false → before t n ≡ before t (suc n)
    unfolding before with_lengths entered length_of declares q
    undeclared_same d = ap (with_lengths p) (sym (ap (set ls (place t n)) marked ∙ set-get_or ls (place t n) 0))
      where
        ls : List ℕ
        ls = entered p t n (entered_to p t)

        marked : length_of p t n ≡ get_or ls (place t n) 0
        marked = eqb-true (length_of p t n) 65535 (not-false (eqb (length_of p t n) 65535) d) ∙ sym (below_length t (omega arith) ht)

    reads_use : Reads 3 3 (use_text p t n) (before t n) (before t (suc n))
    unfolding use_text q
    reads_use = go (declares p t n) refl
      where
        go : (b : Bool) → declares p t n ≡ b
            → Reads 3 3 (elim b [ true ↦ tabbed (bytes "U" ∷ decimal t ∷ decimal n ∷ decimal (length_of p t n) ∷ []) | false ↦ [] ]) (before t n) (before t (suc n))
        go true d = declared_reads d
        go false d = reads_none 3 3 (before t n) (before t (suc n)) (omega arith) (undeclared_same d)

  -- the lines of one task, then those of all

  task_uses : (t : ℕ) → t < p.tasks → Reads 3 3 (texts p.resources (use_text p t)) (with_lengths p (entered_to p t)) (with_lengths p (entered_to p (suc t)))
  unfolding before entered entered_to
  task_uses t h = reads_texts 3 p.resources (use_text p t) (before t) (λ n u. reads_use t n h u)

  pub reads_uses : Reads 3 3 (texts p.tasks (λ t. texts p.resources (use_text p t))) (with_lengths p (opened_to p.tasks p.resources))
      (with_lengths p (entered_to p p.tasks))
  unfolding entered_to
  reads_uses = reads_texts 3 p.tasks (λ t. texts p.resources (use_text p t)) (λ t. with_lengths p (entered_to p t)) task_uses
