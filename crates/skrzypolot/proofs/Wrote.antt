-- A text that has room in the buffer: where the run stands behind it, and what the buffer holds up to the fill.
use Rattle.std.proofs.Common.{◌≡◌, refl, sym, ap, subst, ◌∙◌, Bool, true, false, List, [], ◌∷◌, ◌++◌, append_assoc, append-nil, ℕ, ◌+◌, ◌-◌, ◌≤◌, arith, eqb, length, take, drop, length-append, length-take, length-drop, take_at, le-leb, leb-true}
use Rattle.text.specs.Lines.{line_feed, onto, lines}
use Rattle.plan.specs.declared.Plan.{Plan}
use Rattle.line.specs.Filled.{has_room, out_after}
use Rattle.run.specs.Stream.{At, fed, fed_printed}
use Rattle.run.specs.AsFar.{in_one}
use Rattle.run.specs.Fed.{Taken, nothing, behind, lines_taken, piece_taken}
use Rattle.run.proofs.Going.{fed_append, printed_append}
use Rattle.line.proofs.Room as room

-- a text that has room, behind the fill
module _ (out : List ℕ) (fill : ℕ) (t : List ℕ) (h : fill + length t ≤ length out) where
  after : out_after out fill t ≡ (take fill out ++ t) ++ drop (fill + length t) out
  after = room.out_room out fill t (rw length-drop (omega arith)) ∙ sym (append_assoc (take fill out) t _)

  front_length : length (take fill out ++ t) ≡ fill + length t
  front_length = simp (length-append, length-take) (omega arith)

  has_room_lem : has_room out fill t ≡ true
  unfolding has_room
  has_room_lem = le-leb (length t) (length (drop fill out)) (rw length-drop (omega arith))

  pub after_length : length (out_after out fill t) ≡ length out
  after_length = rw after (simp (length-append, length-take, length-drop) (omega arith))

  pub after_take : take (fill + length t) (out_after out fill t) ≡ take fill out ++ t
  after_take = rw after (take_at (take fill out ++ t) _ _ front_length)

pub room_fits : (out : List ℕ) (fill : ℕ) (t : List ℕ) → fill ≤ length out → has_room out fill t ≡ true → fill + length t ≤ length out
room_fits out fill t h e = let k : length t ≤ length out - fill = rw length-drop at (leb-true (length t) (length (drop fill out)) (unfold has_room in e)) in omega arith

-- all of a text was taken
pub record Wrote (p : Plan) (x : At) (t out : List ℕ) (fill : ℕ) (w : Taken) : Type 0 where
  pub stands : w.at ≡ fed p x t
  pub filled : w.fill ≡ fill + length (fed_printed p x t)
  pub long : length w.out ≡ length out
  pub front : take w.fill w.out ≡ take fill out ++ fed_printed p x t

-- one line, and a text that was taken behind it
module _ (p : Plan) (x : At) (l : List ℕ) (ls : List (List ℕ)) (t out : List ℕ) (fill : ℕ) where
  abbrev first : List ℕ
  first = fed_printed p x l

  abbrev rest : List ℕ
  rest = fed_printed p (fed p x l) t

  abbrev Behind : Taken
  Behind = lines_taken p (fed p x l) ls (out_after out fill first) (fill + length first)

  both : fed_printed p x (l ++ t) ≡ first ++ rest
  both = printed_append p x l t

  both_long_lem : length (fed_printed p x (l ++ t)) ≡ length first + length rest
  both_long_lem = ap length both ∙ length-append first rest

  next : has_room out fill first ≡ true → lines_taken p x (l ∷ ls) out fill ≡ behind (length l) Behind
  unfolding lines_taken
  next e = rw (lines_taken, e)

  line_wrote : fill + length first ≤ length out → Wrote p (fed p x l) t (out_after out fill first) (fill + length first) Behind
      → Wrote p x (l ++ t) out fill (lines_taken p x (l ∷ ls) out fill)
  unfolding behind
  line_wrote h w =
      subst (Wrote p x (l ++ t) out fill) (sym (next (has_room_lem out fill first h))) (record {
        stands = w.stands ∙ sym (fed_append p x l t);
        filled = omega (arith, w.filled, both_long_lem);
        long = w.long ∙ after_length out fill first h;
        front =
            w.front
            ∙ ap (λ (u : List ℕ). u ++ rest) (after_take out fill first h)
            ∙ append_assoc (take fill out) first rest
            ∙ ap (λ (u : List ℕ). take fill out ++ u) (sym both);
      })

nothing_wrote : (p : Plan) (x : At) (out : List ℕ) (fill : ℕ) → Wrote p x [] out fill (nothing x out fill)
unfolding nothing fed fed_printed
nothing_wrote p x out fill = record { stands = refl; filled = omega arith; long = refl; front = sym (append-nil _) }

-- as far as there was room: a front of the text was taken
pub record Part (p : Plan) (x : At) (t out : List ℕ) (fill : ℕ) (w : Taken) : Type 0 where
  pub part : List ℕ
  pub left : List ℕ
  pub parts : t ≡ part ++ left
  pub many : w.bytes ≡ length part
  pub wrote : Wrote p x part out fill w

module _ (p : Plan) (x : At) (l : List ℕ) (ls : List (List ℕ)) (out : List ℕ) (fill : ℕ) where
  abbrev printed : List ℕ
  printed = fed_printed p x l

  line_part : fill + length printed ≤ length out → Part p (fed p x l) (in_one ls) (out_after out fill printed) (fill + length printed) (lines_taken p (fed p x l) ls (out_after out fill printed) (fill + length printed))
      → Part p x (l ++ in_one ls) out fill (lines_taken p x (l ∷ ls) out fill)
  unfolding behind
  line_part h w = record {
    part = l ++ w.part;
    left = w.left;
    parts = ap (λ (u : List ℕ). l ++ u) w.parts ∙ sym (append_assoc l w.part w.left);
    many =
        ap (λ (y : Taken). y.bytes) (next p x l ls w.part out fill (has_room_lem out fill printed h))
        ∙ ap (λ (k : ℕ). length l + k) w.many
        ∙ sym (length-append l w.part);
    wrote = line_wrote p x l ls w.part out fill h w.wrote;
  }

  stop : has_room out fill printed ≡ false → lines_taken p x (l ∷ ls) out fill ≡ nothing x out fill
  unfolding lines_taken
  stop e = rw (lines_taken, e)

nothing_part : (p : Plan) (x : At) (t out : List ℕ) (fill : ℕ) → Part p x t out fill (nothing x out fill)
unfolding nothing
nothing_part p x t out fill = record { part = []; left = t; parts = refl; many = refl; wrote = nothing_wrote p x out fill }

lines_part : (p : Plan) (ls : List (List ℕ)) (x : At) (out : List ℕ) (fill : ℕ) → fill ≤ length out → Part p x (in_one ls) out fill (lines_taken p x ls out fill)
unfolding in_one lines_taken
lines_part p [] x out fill h = nothing_part p x [] out fill
lines_part p (l ∷ ls) x out fill h = go (has_room out fill (fed_printed p x l)) refl (lines_part p ls (fed p x l) (out_after out fill (fed_printed p x l)) (fill + length (fed_printed p x l)))
  where
    go : (b : Bool) → has_room out fill (fed_printed p x l) ≡ b
        → (fill + length (fed_printed p x l) ≤ length (out_after out fill (fed_printed p x l))
        → Part p (fed p x l) (in_one ls) (out_after out fill (fed_printed p x l)) (fill + length (fed_printed p x l)) (lines_taken p (fed p x l) ls (out_after out fill (fed_printed p x l)) (fill + length (fed_printed p x l))))
        → Part p x (l ++ in_one ls) out fill (lines_taken p x (l ∷ ls) out fill)
    go true e ih =
        let k = room_fits out fill (fed_printed p x l) h e in
        line_part p x l ls out fill k (ih (omega (arith, after_length out fill (fed_printed p x l) k)))
    go false e ih = subst (Part p x (l ++ in_one ls) out fill) (sym (stop p x l ls out fill e)) (nothing_part p x (l ++ in_one ls) out fill)

-- the lines of a text are the text
onto_joined : (b : ℕ) (ls : List (List ℕ)) → in_one (onto b ls) ≡ b ∷ in_one ls
unfolding onto in_one
onto_joined b [] = refl
onto_joined b (l ∷ ls) = refl

joined_lines : (t : List ℕ) → in_one (lines t) ≡ t
unfolding lines in_one
joined_lines [] = refl
joined_lines (b ∷ bs) = go (eqb b line_feed) (lines bs) (joined_lines bs)
  where
    go : (c : Bool) (ls : List (List ℕ)) → in_one ls ≡ bs → in_one (elim c [ true ↦ (b ∷ []) ∷ ls | false ↦ onto b ls ]) ≡ b ∷ bs
    go true ls e = ap (λ (u : List ℕ). b ∷ u) e
    go false ls e = onto_joined b ls ∙ ap (λ (u : List ℕ). b ∷ u) e

pub piece_part : (p : Plan) (x : At) (t out : List ℕ) (fill : ℕ) → fill ≤ length out → Part p x t out fill (piece_taken p x t out fill)
unfolding piece_taken
piece_part p x t out fill h = subst (λ (u : List ℕ). Part p x u out fill (lines_taken p x (lines t) out fill)) (joined_lines t) (lines_part p (lines t) x out fill h)
