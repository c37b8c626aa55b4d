-- The declared pairs of the plan read so far are the U lines above: kept by every line that meets its conditions.
use Rattle.std.proofs.Common.{◌≡◌, refl, sym, ap, ◌∙◌, ◌⊎◌, inl, inr, ⊎_elim, true, false, true≢false, List, [], ◌∷◌, ◌++◌, ℕ, ◌+◌, ◌<◌, not-suc-le-zero, arith, length, length-append, Option, Some, None}
use Rattle.below.proofs.Search.{last_or_before}
use Rattle.plan.specs.declared.Plan.{Plan}
use Rattle.plan.specs.Plan.{length_of, declares}
use Rattle.reader.specs.declared.Line.{Line}
use Rattle.reader.specs.declared.Line.TheVariants.{Subsystem, Task, Resource, Uses}
use Rattle.reader.specs.Line.{kind_of}
use Rattle.reader.specs.Reading.{empty_plan, with_subsystem, with_task, with_resource, with_use, with_line}
use Rattle.exactly.specs.Listed.{count_of, InOrder, Condition}
use Rattle.exactly.proofs.PlanShape.{same_or_apart, declares_not, declares_short, declares_same, resource_own, resource_else, use_own, use_else}
use Rattle.exactly.proofs.ListedRows.{no_resource_yet, line_at_old, line_at_new}
use Rattle.exactly.proofs.ListedTied.{use_short, Tables, UsedAt, Stands, Pairs, Tied, latest_empty, latest_line, tables_empty, tables_subsystem, tables_task, tables_resource, tables_use}

module _ (above : List (Option Line)) (l : Option Line) (t r : ℕ) where
  long : length (above ++ (l ∷ [])) ≡ length above + 1
  long = length-append above (l ∷ [])

  -- a U line above is one with a line more
  used_more : UsedAt above t r → UsedAt (above ++ (l ∷ [])) t r
  used_more u = record {
    at = u.at;
    there = omega (arith, long, u.there);
    size = u.size;
    line = line_at_old above l u.at u.there ∙ u.line;
  }

  -- and so is the line itself
  used_here : (m : ℕ) → l ≡ Some (Uses t r m) → UsedAt (above ++ (l ∷ [])) t r
  used_here m e = record { at = length above; there = omega (arith, long); size = m; line = line_at_new above l ∙ e }

  -- and there is no other
  used_split : UsedAt (above ++ (l ∷ [])) t r → UsedAt above t r ⊎ ((m : ℕ) × (l ≡ Some (Uses t r m)))
  used_split u = ⊎_elim here before (last_or_before (omega (arith, long, u.there)))
    where
      here : u.at ≡ length above → UsedAt above t r ⊎ ((m : ℕ) × (l ≡ Some (Uses t r m)))
      here q = inr (u.size, sym (line_at_new above l) ∙ rw q at u.line)

      before : u.at < length above → UsedAt above t r ⊎ ((m : ℕ) × (l ≡ Some (Uses t r m)))
      before v = inl (record { at = u.at; there = v; size = u.size; line = sym (line_at_old above l u.at v) ∙ u.line })

  used_other : (kind_of l ≡ 3 → ⊥) → UsedAt (above ++ (l ∷ [])) t r → UsedAt above t r
  unfolding kind_of
  used_other h u = ⊎_elim (λ v. v) (λ e. absurd (h (ap kind_of e.1))) (used_split u)

pairs_empty : Pairs [] empty_plan
unfolding empty_plan
pairs_empty = record {
  uses = λ t r u. absurd (not-suc-le-zero u.there);
  used = λ t r s. absurd (not-suc-le-zero s.task_there);
}

module _ (above : List (Option Line)) (p : Plan) (w : Tables above p) (h : Pairs above p) where
  pairs_subsystem : (a b : ℕ) → Pairs (above ++ (Some (Subsystem a b) ∷ [])) (with_line p (Some (Subsystem a b)))
  unfolding with_line with_subsystem kind_of declares length_of
  pairs_subsystem a b = record { uses = uses; used = used }
    where
      uses : (t r : ℕ) → UsedAt (above ++ (Some (Subsystem a b) ∷ [])) t r → Stands (with_line p (Some (Subsystem a b))) t r
      uses t r u =
          let s = h.uses t r (used_other above (Some (Subsystem a b)) t r (omega arith) u) in
          record { task_there = s.task_there; resource_there = s.resource_there; declared = s.declared }

      used : (t r : ℕ) → Stands (with_line p (Some (Subsystem a b))) t r → UsedAt (above ++ (Some (Subsystem a b) ∷ [])) t r
      used t r s =
          used_more above (Some (Subsystem a b)) t r
          (h.used t r (record { task_there = s.task_there; resource_there = s.resource_there; declared = s.declared }))

  -- no resource is there yet
  pairs_task : (s : ℕ) → InOrder above (Some (Task s)) → Pairs (above ++ (Some (Task s) ∷ [])) (with_line p (Some (Task s)))
  unfolding with_line with_task kind_of declares length_of
  pairs_task s o = record { uses = uses; used = λ t r v. absurd (omega (arith, v.resource_there, w.resources_are, no_resource_yet above s o)) }
    where
      uses : (t r : ℕ) → UsedAt (above ++ (Some (Task s) ∷ [])) t r → Stands (with_line p (Some (Task s))) t r
      uses t r u =
          let v = h.uses t r (used_other above (Some (Task s)) t r (omega arith) u) in
          record { task_there = omega (arith, v.task_there); resource_there = v.resource_there; declared = v.declared }

  -- no pair is there yet, and none is declared for the new resource
  pairs_resource : (k : ℕ) → InOrder above (Some (Resource k)) → count_of 2 above < 16 → Pairs (above ++ (Some (Resource k) ∷ [])) (with_line p (Some (Resource k)))
  unfolding with_line with_resource kind_of declares
  pairs_resource k o few = record { uses = uses; used = used }
    where
      room : p.resources < 16
      room = omega (arith, w.resources_are)

      uses : (t r : ℕ) → UsedAt (above ++ (Some (Resource k) ∷ [])) t r → Stands (with_line p (Some (Resource k))) t r
      uses t r u =
          let v = used_other above (Some (Resource k)) t r (omega arith) u in
          absurd (omega (arith, o v.at v.there, ap kind_of v.line))

      own : (t r : ℕ) → t < p.tasks → r ≡ p.resources → declares (with_resource p k) t r ≡ false
      own t r a q = rw q (declares_not (with_resource p k) t p.resources (resource_own p k t w.shaped w.tasks_few room a))

      old : (t r : ℕ) → t < p.tasks → r < p.resources → declares (with_resource p k) t r ≡ true → UsedAt above t r
      old t r a b d =
          h.used t r (record {
            task_there = a;
            resource_there = b;
            declared = sym (declares_same (with_resource p k) p t r (resource_else p k t r room (omega arith) (λ _ q. omega arith))) ∙ d;
          })

      used : (t r : ℕ) → Stands (with_line p (Some (Resource k))) t r → UsedAt (above ++ (Some (Resource k) ∷ [])) t r
      used t r s =
          used_more above (Some (Resource k)) t r
          (⊎_elim
          (λ q. absurd (true≢false (sym s.declared ∙ own t r s.task_there q)))
          (λ b. old t r s.task_there b s.declared)
          (last_or_before (omega (arith, s.resource_there))))

  -- the new pair is declared, and the others are as they were
  pairs_use : (t r m : ℕ) → t < p.tasks → r < p.resources → m < 65535 → Pairs (above ++ (Some (Uses t r m) ∷ [])) (with_line p (Some (Uses t r m)))
  unfolding with_line with_use
  pairs_use t r m a b short = record { uses = uses; used = used }
    where
      l : Option Line
      l = Some (Uses t r m)

      q : Plan
      q = with_use p t r m

      own : declares q t r ≡ true
      own = declares_short q t r (rw (use_own p t r m w.shaped (omega (arith, w.tasks_few)) (omega (arith, w.resources_few))) short)

      -- a pair is the new one, or is what it was
      new_or_kept : (u v : ℕ) → v < p.resources → ((u ≡ t) × (v ≡ r)) ⊎ (declares q u v ≡ declares p u v)
      new_or_kept u v c =
          ⊎_elim inl (λ d. inr (declares_same q p u v (use_else p t r m u v d)))
          (same_or_apart u v t r (omega (arith, w.resources_few)) (omega (arith, w.resources_few)))

      uses : (u v : ℕ) → UsedAt (above ++ (l ∷ [])) u v → Stands (with_line p l) u v
      uses u v n = ⊎_elim (λ n. old (h.uses u v n)) new (used_split above l u v n)
        where
          old : Stands p u v → Stands q u v
          old s = record {
            task_there = s.task_there;
            resource_there = s.resource_there;
            declared = ⊎_elim declared (λ e. e ∙ s.declared) (new_or_kept u v s.resource_there);
          }
            where
              declared : (u ≡ t) × (v ≡ r) → declares q u v ≡ true
              declared e = rw (e.0, e.1) own

          new : (k : ℕ) × (l ≡ Some (Uses u v k)) → Stands q u v
          new e =
              let n = e.1 in
              let tu : t ≡ u = cc in
              let rv : r ≡ v = cc in
              record { task_there = rw tu at a; resource_there = rw rv at b; declared = rw (← tu, ← rv) own }

      used : (u v : ℕ) → Stands (with_line p l) u v → UsedAt (above ++ (l ∷ [])) u v
      used u v s = ⊎_elim new old (new_or_kept u v s.resource_there)
        where
          new : (u ≡ t) × (v ≡ r) → UsedAt (above ++ (l ∷ [])) u v
          new e = used_here above l u v m (rw (e.0, e.1))

          old : declares q u v ≡ declares p u v → UsedAt (above ++ (l ∷ [])) u v
          old e =
              used_more above l u v
              (h.used u v (record { task_there = s.task_there; resource_there = s.resource_there; declared = sym e ∙ s.declared }))

-- the whole of it

pub tied_empty : Tied [] 0 empty_plan
tied_empty = record { latest = latest_empty; tables = tables_empty; pairs = pairs_empty }

pub tied_line : (above : List (Option Line)) (last : ℕ) (p : Plan) (l : Option Line) → Tied above last p → ((c : ℕ) → Condition c above l)
    → Tied (above ++ (l ∷ [])) (kind_of l) (with_line p l)
tied_line above last p l w c = record { latest = latest_line above l (c 1); tables = tables l c; pairs = pairs l c }
  where
    tables : (l : Option Line) → ((c : ℕ) → Condition c above l) → Tables (above ++ (l ∷ [])) (with_line p l)
    tables (Some (Subsystem a b)) c = tables_subsystem above p w.tables a b (c 2)
    tables (Some (Task s)) c = tables_task above p w.tables s (c 2)
    tables (Some (Resource k)) c = tables_resource above p w.tables k (c 2)
    tables (Some (Uses t r m)) c = tables_use above p w.tables t r m
    tables None c = absurd (c 0 refl)

    pairs : (l : Option Line) → ((c : ℕ) → Condition c above l) → Pairs (above ++ (l ∷ [])) (with_line p l)
    pairs (Some (Subsystem a b)) c = pairs_subsystem above p w.tables w.pairs a b
    pairs (Some (Task s)) c = pairs_task above p w.tables w.pairs s (c 1)
    pairs (Some (Resource k)) c = pairs_resource above p w.tables w.pairs k (c 1) (c 2)
    pairs (Some (Uses t r m)) c =
        pairs_use above p w.tables w.pairs t r m
        (omega (arith, c 3, w.tables.tasks_are))
        (omega (arith, c 3, w.tables.resources_are))
        (use_short above t r m (c 4))
    pairs None c = absurd (c 0 refl)
