-- Two texts put one after the other into the rest of a buffer are their join put at once.
use Rattle.std.proofs.Common.{◌≡◌, refl, sym, ◌∙◌, Bool, true, false, List, [], ◌++◌, append_assoc, ℕ, ◌+◌, ◌≤◌, ◌<◌, add-zero, add_assoc, arith, leb, length, take, drop, length-append, length-take, length-drop, take_at, drop_at, drop-drop, leb-true, leb-false, le-leb}
use Rattle.line.specs.Filled.{has_room, out_after}
use Rattle.line.proofs.Room.{out_room}
use Rattle.run.proofs.KeptBytes.{none_of}
use Rattle.run.proofs.TakenLines.{room_quiet, out_quiet}

module _ (out : List ℕ) (fill : ℕ) (a : List ℕ) where
  -- a text with room is no longer than the rest
  pub room_says : has_room out fill a ≡ true → length a ≤ length (drop fill out)
  unfolding has_room
  room_says e = leb-true (length a) (length (drop fill out)) e

  pub room_is : length a ≤ length (drop fill out) → has_room out fill a ≡ true
  unfolding has_room
  room_is h = le-leb (length a) (length (drop fill out)) h

-- the first text is within the buffer
module _ (out : List ℕ) (fill : ℕ) (a : List ℕ) (h : fill + length a ≤ length out) where
  front : List ℕ
  front = take fill out ++ a

  front_length : length front ≡ fill + length a
  unfolding front
  front_length = rw (length-append, length-take) (omega arith)

  once : out_after out fill a ≡ front ++ drop (fill + length a) out
  unfolding front
  once = out_room out fill a (rw length-drop (omega arith)) ∙ sym (append_assoc (take fill out) a (drop (fill + length a) out))

  rest_is : drop (fill + length a) (out_after out fill a) ≡ drop (fill + length a) out
  rest_is = rw once (drop_at front (drop (fill + length a) out) (fill + length a) front_length)

  twice_within : (b : List ℕ) → length b ≤ length (drop (fill + length a) out) → out_after (out_after out fill a) (fill + length a) b ≡ out_after out fill (a ++ b)
  twice_within b l =
      out_room (out_after out fill a) (fill + length a) b (rw rest_is l)
      ∙ rw (
        ← drop-drop (length b) (fill + length a) (out_after out fill a),
        rest_is,
        drop-drop (length b) (fill + length a) out,
        once,
        take_at front (drop (fill + length a) out) (fill + length a) front_length,
      )
      (joins b)
      ∙ sym (out_room out fill (a ++ b) (rw (length-append, length-drop) (omega (arith, length-drop (fill + length a) out))))
    where
      joins : (b : List ℕ) → front ++ (b ++ drop (fill + length a + length b) out) ≡ take fill out ++ ((a ++ b) ++ drop (fill + length (a ++ b)) out)
      joins b = unfold front in rw (length-append a b, add_assoc fill (length a) (length b)) (simp append_assoc)

-- both have room one after the other when their join has
module _ (out : List ℕ) (fill : ℕ) (a b : List ℕ) (r : has_room out fill a ≡ true) (q : has_room (out_after out fill a) (fill + length a) b ≡ true) where
  -- past the end only nothing has room
  past : length out < fill → (a ≡ []) × (b ≡ [])
  past h = (e, none_of b (omega (arith, s, length-drop (fill + 0) out)))
    where
      e : a ≡ []
      e = none_of a (omega (arith, room_says out fill a r, length-drop fill out))

      s : length b ≤ length (drop (fill + 0) out)
      s = room_says out (fill + 0) b (rw (e, out_quiet out fill) at q)

  both : (length out < fill → has_room out fill (a ++ b) ≡ true) → (fill + length a ≤ length out → has_room out fill (a ++ b) ≡ true) → has_room out fill (a ++ b) ≡ true
  both f g = go (leb fill (length out)) refl
    where
      go : (c : Bool) → leb fill (length out) ≡ c → has_room out fill (a ++ b) ≡ true
      go true t = g (omega (arith, leb-true fill (length out) t, room_says out fill a r, length-drop fill out))
      go false t = f (leb-false fill (length out) t)

  pub room_twice : has_room out fill (a ++ b) ≡ true
  room_twice = both far near
    where
      far : length out < fill → has_room out fill (a ++ b) ≡ true
      far h = let z = past h in rw (z.0, z.1) (room_quiet out fill)

      near : fill + length a ≤ length out → has_room out fill (a ++ b) ≡ true
      near h =
          let s = rw (rest_is out fill a h) at (room_says (out_after out fill a) (fill + length a) b q) in
          room_is out fill (a ++ b) (rw (length-append, length-drop) (omega (arith, length-drop (fill + length a) out)))

  pub out_twice : out_after (out_after out fill a) (fill + length a) b ≡ out_after out fill (a ++ b)
  out_twice = go (leb fill (length out)) refl
    where
      far : length out < fill → out_after (out_after out fill a) (fill + length a) b ≡ out_after out fill (a ++ b)
      far h = let z = past h in rw (z.0, z.1, out_quiet out fill, add-zero, out_quiet out fill)

      near : fill + length a ≤ length out → out_after (out_after out fill a) (fill + length a) b ≡ out_after out fill (a ++ b)
      near h = twice_within out fill a h b (rw (rest_is out fill a h) at (room_says (out_after out fill a) (fill + length a) b q))

      go : (c : Bool) → leb fill (length out) ≡ c → out_after (out_after out fill a) (fill + length a) b ≡ out_after out fill (a ++ b)
      go true t = near (omega (arith, leb-true fill (length out) t, room_says out fill a r, length-drop fill out))
      go false t = far (leb-false fill (length out) t)
