-- A fill lies within its buffer.
use Rattle.std.proofs.Common.{◌≡◌, refl, Bool, true, false, List, [], ◌∷◌, ℕ, ◌+◌, ◌≤◌, arith, length}
use Rattle.std.specs.Prelude.{Some, Result}
use Rattle.line.specs.Filled.{has_room, fill_after, out_after}
use Rattle.line.proofs.Room.{fill_within}
use Rattle.run.specs.declared.Full.{Full}
use Rattle.run.specs.AsFar.{as_far, fill_of}
use Rattle.run.proofs.AsFarLaws.{far_room, far_none}
use Rattle.skrzypolot.proofs.Wrote.{room_fits, after_length}

-- a bound stays where the length does
pub within : (n k m : ℕ) → n ≤ k → m ≡ k → n ≤ m
within n k m h e = omega arith

-- behind lines that were written as far as the buffer goes
pub far_within : (ls : List (List ℕ)) (out : List ℕ) (fill : ℕ) → fill ≤ length out → fill_of (as_far ls out fill) ≤ length out
unfolding as_far
far_within [] out fill h = h
far_within (l ∷ ls) out fill h = go (has_room out fill l) refl (far_within ls (out_after out fill l) (fill + length l))
  where
    go : (b : Bool) → has_room out fill l ≡ b
        → (fill + length l ≤ length (out_after out fill l) → fill_of (as_far ls (out_after out fill l) (fill + length l)) ≤ length (out_after out fill l))
        → fill_of (as_far (l ∷ ls) out fill) ≤ length out
    go true e ih =
        let k = room_fits out fill l h e in
        let same = after_length out fill l k in
        rw (far_room out fill l ls e) (omega (arith, same, ih (omega (arith, same))))
    go false e ih = rw (far_none out fill l ls e) h

-- in a buffer of n bytes
pub far_fits : (ls : List (List ℕ)) (out : List ℕ) (r : Result ℕ Full) (m n : ℕ) → r ≡ as_far ls out 0 → m ≡ fill_of r → length out ≡ n → m ≤ n
far_fits ls out r m n e f l = rw (f, e) (omega (arith, far_within ls out 0 (omega arith)))

pub line_fits : (t out : List ℕ) (m n : ℕ) → Some m ≡ fill_after out 0 t → length out ≡ n → m ≤ n
line_fits t out m n e l = omega (arith, fill_within out 0 t (omega arith) m e)
