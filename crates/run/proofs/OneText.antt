-- Lines that all had room stand in the buffer as one text; and they all have room exactly when that text has.
use Rattle.std.proofs.Common.{◌≡◌, refl, sym, ap, ◌∙◌, Bool, true, false, List, [], ◌∷◌, ◌++◌, append_assoc, ℕ, ◌+◌, ◌-◌, ◌≤◌, arith, length, take, drop, length-append, length-take, length-drop, take-append-drop, take_at, drop_at, drop-drop, leb, leb-true, leb-false, le-leb}
use mathlib.Core.Bool.{false≢true}
use borrow.Author.Tests.{lt-leb}
use Rattle.line.specs.Filled.{has_room, out_after}
use Rattle.std.specs.Prelude.{Ok}
use Rattle.run.specs.AsFar.{as_far, as_far_out, is_whole, in_one}
use Rattle.run.proofs.AsFarLaws.{far_room, far_none, out_room}
use Rattle.line.proofs.Room as room

-- one line that has room
module _ (out : List ℕ) (fill : ℕ) (l : List ℕ) (h : fill + length l ≤ length out) where
  has_room_lem : has_room out fill l ≡ true
  unfolding has_room
  has_room_lem = le-leb (length l) (length (drop fill out)) (rw length-drop (omega arith))

  after : out_after out fill l ≡ (take fill out ++ l) ++ drop (fill + length l) out
  after = room.out_room out fill l (rw length-drop (omega arith)) ∙ sym (append_assoc (take fill out) l _)

  front_length : length (take fill out ++ l) ≡ fill + length l
  front_length = simp (length-append, length-take) (omega arith)

  after_length : length (out_after out fill l) ≡ length out
  after_length = rw after (simp (length-append, length-take, length-drop) (omega arith))

  after_take : take (fill + length l) (out_after out fill l) ≡ take fill out ++ l
  after_take = rw after (take_at (take fill out ++ l) _ _ front_length)

  after_drop : (n : ℕ) → drop (fill + length l + n) (out_after out fill l) ≡ drop (fill + length l + n) out
  after_drop n =
      sym (drop-drop n (fill + length l) (out_after out fill l))
      ∙ ap (drop n) (rw after (drop_at (take fill out ++ l) _ _ front_length))
      ∙ drop-drop n (fill + length l) out

-- what is answered then, and what stands in the buffer
pub record Whole (ls : List (List ℕ)) (out : List ℕ) (fill : ℕ) : Type 0 where
  pub answer : as_far ls out fill ≡ Ok (fill + length (in_one ls))
  pub holds : as_far_out ls out fill ≡ take fill out ++ (in_one ls ++ drop (fill + length (in_one ls)) out)

none_whole : (out : List ℕ) (fill : ℕ) → Whole [] out fill
unfolding as_far as_far_out in_one
none_whole out fill =
    let e : fill + 0 ≡ fill = omega arith in
    record { answer = rw e; holds = rw e (sym (take-append-drop fill out)) }

line_whole : (l : List ℕ) (ls : List (List ℕ)) (out : List ℕ) (fill : ℕ) → fill + length l ≤ length out
    → Whole ls (out_after out fill l) (fill + length l) → Whole (l ∷ ls) out fill
unfolding in_one
line_whole l ls out fill h w =
    let n = length (in_one ls) in
    let e : fill + length (l ++ in_one ls) ≡ fill + length l + n = rw length-append (omega arith) in
    record {
      answer = rw e (far_room out fill l ls (has_room_lem out fill l h) ∙ w.answer);
      holds =
          rw e
          (out_room out fill l ls (has_room_lem out fill l h)
          ∙ w.holds
          ∙ rw (after_take out fill l h, after_drop out fill l h n) (simp append_assoc));
    }

pub all_whole : (ls : List (List ℕ)) (out : List ℕ) (fill : ℕ) → fill + length (in_one ls) ≤ length out → Whole ls out fill
unfolding in_one
all_whole [] out fill h = none_whole out fill
all_whole (l ∷ ls) out fill h =
    let e = length-append l (in_one ls) in
    let f : fill + length l ≤ length out = omega arith in
    line_whole l ls out fill f (all_whole ls (out_after out fill l) (fill + length l) (rw (after_length out fill l f) (omega arith)))

-- where the answer is whole, the text has room
pub whole_room : (ls : List (List ℕ)) (out : List ℕ) (fill : ℕ) → fill ≤ length out → is_whole (as_far ls out fill) ≡ true
    → fill + length (in_one ls) ≤ length out
unfolding in_one
whole_room [] out fill h t = omega arith
whole_room (l ∷ ls) out fill h t = go (has_room out fill l) refl (whole_room ls (out_after out fill l) (fill + length l))
  where
    go : (b : Bool) → has_room out fill l ≡ b
        → (fill + length l ≤ length (out_after out fill l) → is_whole (as_far ls (out_after out fill l) (fill + length l)) ≡ true
        → fill + length l + length (in_one ls) ≤ length (out_after out fill l))
        → fill + length (l ++ in_one ls) ≤ length out
    go true b ih =
        let m : length l ≤ length out - fill = rw length-drop at (leb-true (length l) (length (drop fill out)) (unfold has_room in b)) in
        let f : fill + length l ≤ length out = omega arith in
        let k = after_length out fill l f in
        let i = ih (omega arith) (sym (ap is_whole (far_room out fill l ls b)) ∙ t) in
        rw length-append (omega arith)
    go false b ih = absurd (false≢true (sym (ap is_whole (far_none out fill l ls b)) ∙ t))

-- a fill past the end leaves room for empty lines alone
module _ (out : List ℕ) (fill : ℕ) (past : length out ≤ fill) where
  none_after : has_room out fill [] ≡ true → out_after out fill [] ≡ out
  none_after e =
      let z : fill + 0 ≡ fill = omega arith in
      room.out_room out fill [] (omega arith) ∙ rw z (take-append-drop fill out)

  some_not : (x : ℕ) (xs : List ℕ) → has_room out fill (x ∷ xs) ≡ false
  unfolding has_room
  some_not x xs = lt-leb (length (x ∷ xs)) (length (drop fill out)) (rw length-drop (omega arith))

  past_whole : (ls : List (List ℕ)) → is_whole (as_far ls out fill) ≡ true → Whole ls out fill
  unfolding in_one
  past_whole [] t = none_whole out fill
  past_whole ([] ∷ ls) t = go has_none (past_whole ls)
    where
      has_none : has_room out fill [] ≡ true
      has_none = unfold has_room in le-leb 0 (length (drop fill out)) (omega arith)

      go : has_room out fill [] ≡ true → (is_whole (as_far ls out fill) ≡ true → Whole ls out fill) → Whole ([] ∷ ls) out fill
      go e ih =
          let z : fill + 0 ≡ fill = omega arith in
          let f : as_far ([] ∷ ls) out fill ≡ as_far ls out fill = far_room out fill [] ls e ∙ rw (none_after e, z) in
          let g : as_far_out ([] ∷ ls) out fill ≡ as_far_out ls out fill = out_room out fill [] ls e ∙ rw (none_after e, z) in
          let w = ih (sym (ap is_whole f) ∙ t) in
          record { answer = f ∙ w.answer; holds = g ∙ w.holds }
  past_whole ((x ∷ xs) ∷ ls) t =
      absurd (false≢true (sym (ap is_whole (far_none out fill (x ∷ xs) ls (some_not x xs))) ∙ t))

-- the report is one text: what stood before the fill stays, and the fill moves by its length
pub whole_text : (ls : List (List ℕ)) (out : List ℕ) (fill : ℕ) → is_whole (as_far ls out fill) ≡ true → Whole ls out fill
whole_text ls out fill t = go (leb fill (length out)) refl
  where
    go : (b : Bool) → leb fill (length out) ≡ b → Whole ls out fill
    go true e = all_whole ls out fill (whole_room ls out fill (leb-true fill (length out) e) t)
    go false e = past_whole out fill (omega (arith, leb-false fill (length out) e)) ls t
