-- A line that was accepted has room in the plan, and leaves no more rows than may be.
use mathlib.Core.Path.{◌≡◌, refl}
use mathlib.Core.Bool.{Bool, true, false, ◌&&◌, ◌||◌, cond, true≢false, and-eq-true_iff}
use mathlib.Core.List.{List, ◌∷◌}
use Prim.Native.Nat.{ℕ, ◌≤◌}
use native.Mathlib.Omega.{arith}
use lib.Dec.{leb, eqb}
use borrow.Author.Tests.{leb-true, leb-false, eqb-true, not-false}
use Rattle.plan.specs.declared.Plan.{Plan}
use Rattle.plan.specs.Limits.{longest}
use Rattle.plan.specs.Plan.{is_global}
use Rattle.reader.specs.declared.refusals.Refusal.{Refusal}
use Rattle.reader.specs.declared.Line.{Line}
use Rattle.reader.specs.declared.Line.TheVariants.{Subsystem, Task, Resource, Uses}
use Rattle.reader.specs.Conditions.{too_many_rows, no_such_row, out_of_range}
use Rattle.reader.specs.Reading.{empty_plan, first_of, judged, with_subsystem, with_task, with_resource, with_use, with_line}
use Rattle.reader.specs.Room.{Counts, Room}
use Rattle.std.proofs.Common.{Option, Some, None, Ok}

-- passed: a test in front was false, and those behind it pass
first_passed : (b : Bool) (v : Refusal) (ts : List (Bool × Refusal)) {u : Unit} → first_of ((b, v) ∷ ts) ≡ Ok u → (b ≡ false) × (first_of ts ≡ Ok u)
unfolding first_of
first_passed true v ts e = absurd (cc)
first_passed false v ts e = (refl, e)

record Passed (p : Plan) (l : Option Line) : Type 0 where
  pub left : too_many_rows p l ≡ false
  pub there : no_such_row p l ≡ false
  pub fits : out_of_range p l ≡ false

passed : (p : Plan) (last n : ℕ) (l : Option Line) {u : Unit} → judged p last n l ≡ Ok u → Passed p l
unfolding judged
passed p last n l e =
    let a = first_passed _ _ _ e in
    let b = first_passed _ _ _ a.1 in
    let c = first_passed _ _ _ b.1 in
    let d = first_passed _ _ _ c.1 in
    let f = first_passed _ _ _ d.1 in
    record { left = c.0; there = d.0; fits = f.0 }

neither : (a b : Bool) → (a || b) ≡ false → (a ≡ false) × (b ≡ false)
neither true b e = absurd (true≢false e)
neither false b e = (refl, e)

within : (g : Bool) (n : ℕ) → cond g (leb 1 n && leb n longest) (eqb n 0) ≡ true → n ≤ longest
within true n e = leb-true n longest ((and-eq-true_iff (leb 1 n) (leb n longest)).0 e).1
within false n e = omega (arith, eqb-true n 0 e)

room_of : (p : Plan) (l : Option Line) → Counts p → Passed p l → Room p l
unfolding too_many_rows no_such_row out_of_range
room_of p (Some (Subsystem period budget)) c q =
    let d = (and-eq-true_iff _ (leb budget period)).0 (not-false _ q.fits) in
    let b = (and-eq-true_iff _ (leb 1 budget)).0 d.0 in
    let a = (and-eq-true_iff (leb 1 period) (leb period longest)).0 b.0 in
    (leb-false 8 p.subsystems q.left, leb-true period longest a.1, omega (arith, leb-true period longest a.1, leb-true budget period d.1))
room_of p (Some (Task subsystem)) c q =
    (leb-false 32 p.tasks q.left, omega (arith, leb-false p.subsystems subsystem q.there))
room_of p (Some (Resource kind)) c q = (leb-false 16 p.resources q.left, c.tasks)
room_of p (Some (Uses task resource length)) c q =
    let r = neither _ _ q.there in
    (omega (arith, leb-false p.tasks task r.0), omega (arith, leb-false p.resources resource r.1), within (is_global p resource) length (not-false _ q.fits))
room_of p None c q = tt

pub room : (p : Plan) (last n : ℕ) (l : Option Line) {u : Unit} → Counts p → judged p last n l ≡ Ok u → Room p l
room p last n l c e = room_of p l c (passed p last n l e)

pub counts_empty : Counts empty_plan
unfolding empty_plan
counts_empty = record { subsystems = omega arith; tasks = omega arith; resources = omega arith }

pub counts_kept : (p : Plan) (l : Option Line) → Counts p → Room p l → Counts (with_line p l)
unfolding with_line with_subsystem with_task with_resource with_use
counts_kept p (Some (Subsystem period budget)) c r = omega arith
counts_kept p (Some (Task subsystem)) c r = omega arith
counts_kept p (Some (Resource kind)) c r = omega arith
counts_kept p (Some (Uses task resource length)) c r = omega arith
counts_kept p None c r = c
