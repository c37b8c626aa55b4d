-- Laws of the bytes that are kept of a line: how many there are, and how more are put behind them.
use Rattle.std.proofs.Common.{◌≡◌, refl, sym, ap, ◌∙◌, Bool, true, false, List, [], ◌∷◌, ◌++◌, ℕ, zero, suc, ◌+◌, ◌-◌, ◌≤◌, min, arith, leb, length, take, drop, length-take, take_all, take-add, length-take-le, leb-true, leb-false, drop_at}
use lib.Seq.{take-append-le, take-append-add}
use borrow.Rule.Slice.PartMut.{put_mid, post_of}
use Rattle.std.proofs.lemmas.Slice.{take-put_mid_below}

-- a front taken by its own length
pub take_length_take : (m : ℕ) (l : List ℕ) → take (length (take m l)) l ≡ take m l
take_length_take zero l = refl
take_length_take (suc m) [] = refl
take_length_take (suc m) (x ∷ l) = ap (λ (t : List ℕ). x ∷ t) (take_length_take m l)

-- no more than there are
take_min : (a : ℕ) (l : List ℕ) → take (min a (length l)) l ≡ take a l
take_min a l = go (leb a (length l)) refl
  where
    go : (b : Bool) → leb a (length l) ≡ b → take (min a (length l)) l ≡ take a l
    go true e = ap (λ (k : ℕ). take k l) {x = min a (length l)} {y = a} (omega (arith, leb-true a (length l) e))
    go false e =
        take_all (min a (length l)) l (omega (arith, leb-false a (length l) e)) ∙ sym (take_all a l (omega (arith, leb-false a (length l) e)))

-- more bytes behind them, up to 20
pub kept_more : (b part : List ℕ) (m n count : ℕ) → length b ≡ 20 → n ≡ length (take m b) → count ≡ min (20 - n) (length part)
    → take n b ++ take count part ≡ take 20 (take m b ++ part)
kept_more b part m n count h e f =
    let k : n ≤ 20 = omega (arith, length-take m b) in
    rw (f, take_min, e, take_length_take)
    (sym
    (ap (λ (j : ℕ). take j (take m b ++ part)) {x = 20} {y = length (take m b) + (20 - length (take m b))} (omega arith)
    ∙ take-append-add (take m b) part (20 - length (take m b))))

-- n bytes more at the start of some bytes, put behind the first a
take-put_mid_more : (a k n : ℕ) (xs ys : List ℕ) → a ≤ length xs → n ≤ length ys → take (a + n) (put_mid a k xs ys) ≡ take a xs ++ take n ys
take-put_mid_more a k n xs ys within fits =
    take-add a n (put_mid a k xs ys)
    ∙ ap (λ (l : List ℕ). l ++ take n (drop a (put_mid a k xs ys))) (take-put_mid_below a k xs ys a (omega arith) within)
    ∙ ap (λ (l : List ℕ). take a xs ++ take n l) (drop_at (take a xs) (ys ++ post_of a k xs) a (length-take-le a xs within))
    ∙ ap (λ (l : List ℕ). take a xs ++ l) (take-append-le n ys (post_of a k xs) fits)

-- as many as there is room for
pub kept_put : (b part ys : List ℕ) (m n count k : ℕ) → length b ≡ 20 → n ≡ length (take m b) → count ≡ min (length part) (20 - n) → ys ≡ take count part
    → take (n + count) (put_mid n k b ys) ≡ take 20 (take m b ++ part)
kept_put b part ys m n count k h e f g =
    let w : n ≤ length b = omega (arith, length-take m b) in
    let l : length ys ≡ count = rw g (length-take-le count part (omega arith)) in
    take-put_mid_more n k count b ys w (omega arith)
    ∙ ap (λ (t : List ℕ). take n b ++ t) (take_all count ys (omega arith) ∙ g)
    ∙ kept_more b part m n count h e (omega arith)

-- no bytes
pub none_of : (l : List ℕ) → length l ≡ 0 → l ≡ []
none_of [] e = refl
none_of (x ∷ l) e = absurd (omega arith)
