-- The text of an accepted plan reads back as that plan.
use Rattle.std.proofs.Common.{◌≡◌, sym, ap, subst, ◌∙◌, ◌⊎◌, inl, inr, true, false, List, [], ◌++◌, append-nil, ℕ, ◌/◌, ◌%◌, ◌≤◌, ◌<◌, div-add-mod', arith, length, get_or, ext_get_or, le-ltb, leb-true, ne_eqb}
use Rattle.text.specs.Lines.{lines}
use Rattle.plan.specs.declared.Plan.{Plan}
use Rattle.plan.specs.Plan.{place, length_of}
use Rattle.plan.specs.Admission.{first_negative, admitted}
use Rattle.plan.specs.Accepted.{accepted}
use Rattle.plan.proofs.Facts.{row_there, fits_admitted, accepted_facts}
use Rattle.reader.specs.Reading.{empty_plan, read_from, judged_rowless, listed_reading, judged_margins, reading}
use Rattle.exactly.specs.TextOf.{texts, subsystem_text, task_text, resource_text, use_text, text_of}
use Rattle.exactly.proofs.PlanShape.{Shaped}
use Rattle.exactly.proofs.SoundPlan.{Sound}
use Rattle.exactly.proofs.SoundFacts.{accepted_sound}
use Rattle.exactly.proofs.TextOfReads.{Reads, reads_then, reads_after}
use Rattle.exactly.proofs.TextOfTables.{opened_to, opened_to_absent}
use Rattle.exactly.proofs.TextOfRows.{tasks_to, resources_to, with_lengths, reads_subsystems, reads_tasks, reads_resources}
use Rattle.exactly.proofs.TextOfEntered.{entered_to, entered_to_long, entered_to_there, entered_to_else}
use Rattle.exactly.proofs.TextOfUses.{reads_uses}
use Rattle.exactly.proofs.TextOfLong.{text_long}
use Rattle.std.proofs.Common.{Ok}

module _ (p : Plan) (w : Sound p) where
  -- when all lengths are entered they are the plan's

  entered_pair : (t r : ℕ) → r < 16 → get_or (entered_to p p.tasks) (place t r) 0 ≡ length_of p t r
  entered_pair t r h = go (row_there t p.tasks) (row_there r p.resources)
    where
      absent : (t < p.tasks → r < p.resources → ⊥) → get_or (entered_to p p.tasks) (place t r) 0 ≡ length_of p t r
      absent n =
          entered_to_else p w p.tasks t r h n
          ∙ opened_to_absent p.tasks p.resources w.kinds_fit.few t r h n
          ∙ sym (w.uses_fit.no_length t r h n)

      go : (t < p.tasks) ⊎ (p.tasks ≤ t) → (r < p.resources) ⊎ (p.resources ≤ r) → get_or (entered_to p p.tasks) (place t r) 0 ≡ length_of p t r
      go (inl a) (inl b) = entered_to_there p w p.tasks (omega arith) t r a b
      go (inl a) (inr b) = absent (λ x y. omega arith)
      go (inr a) b = absent (λ x y. omega arith)

  entered_whole : entered_to p p.tasks ≡ p.lengths
  unfolding length_of place
  entered_whole =
      ext_get_or 0 (entered_to p p.tasks) p.lengths (entered_to_long p w p.tasks ∙ sym w.shaped.lengths_long)
      (λ i h. rw (div-add-mod' i 16) at (entered_pair (i / 16) (i % 16) (omega arith)))

  same_plan : with_lengths p (entered_to p p.tasks) ≡ p
  unfolding with_lengths
  same_plan = rw entered_whole

  -- so the whole text takes the empty plan to the plan
  reads_text : Reads 0 3 (text_of p) empty_plan p
  unfolding text_of
  reads_text =
      reads_then 0 0 3 ss (ts ++ (rs ++ us)) empty_plan (tasks_to p 0) p (reads_subsystems p w)
      (reads_after 0 1 3 (ts ++ (rs ++ us)) (tasks_to p 0) p (omega arith)
      (reads_then 1 1 3 ts (rs ++ us) (tasks_to p 0) (resources_to p 0) p (reads_tasks p w)
      (reads_after 1 2 3 (rs ++ us) (resources_to p 0) p (omega arith)
      (reads_then 2 2 3 rs us (resources_to p 0) (with_lengths p (opened_to p.tasks p.resources)) p (reads_resources p w)
      (reads_after 2 3 3 us (with_lengths p (opened_to p.tasks p.resources)) p (omega arith) last)))))
    where
      ss : List ℕ
      ss = texts p.subsystems (subsystem_text p)

      ts : List ℕ
      ts = texts p.tasks (task_text p)

      rs : List ℕ
      rs = texts p.resources (resource_text p)

      us : List ℕ
      us = texts p.tasks (λ t. texts p.resources (use_text p t))

      last : Reads 3 3 us (with_lengths p (opened_to p.tasks p.resources)) p
      last = subst (λ (q : Plan). Reads 3 3 us (with_lengths p (opened_to p.tasks p.resources)) q) same_plan (reads_uses p w)

  read_whole : read_from (lines (text_of p)) 1 0 empty_plan ≡ Ok p
  unfolding lines read_from
  read_whole = rw (append-nil (text_of p)) at (reads_text [] 1 0 (omega arith)).goes_on

-- nothing is refused behind the last line
some_rows : (p : Plan) → 1 ≤ p.subsystems → judged_rowless p ≡ Ok p
unfolding judged_rowless
some_rows p some = rw (judged_rowless, ne_eqb p.subsystems 0 (omega arith))

fine_margins : (p : Plan) → admitted p ≡ true → judged_margins p ≡ Ok p
unfolding judged_margins admitted
fine_margins p a = rw (judged_margins, le-ltb (first_negative p) p.subsystems (leb-true p.subsystems (first_negative p) a))

pub text_reads_back : (p : Plan) → Shaped p → accepted p ≡ true → reading (text_of p) ≡ Ok p
unfolding reading listed_reading
text_reads_back p shape e =
    let A = accepted_facts p e in
    let w = accepted_sound p shape A in
    rw (
      reading,
      listed_reading,
      le-ltb 16384 (length (text_of p)) (text_long p w),
      read_whole p w,
      some_rows p A.some_subsystem,
      fine_margins p (fits_admitted p A),
    )
