-- A number within a buffer counts bytes at its start, and what a read puts behind them.
use Rattle.std.proofs.Common.{◌≡◌, sym, List, ℕ, ◌+◌, ◌≤◌, ◌++◌, length, take, drop, arith, ap, ◌∙◌, append-nil, drop_at, take-add}
use Rattle.std.proofs.Math.Seq.{length-take-le}
use Rattle.std.proofs.lemmas.Slice.{take-put_mid_below}
use borrow.Rule.Slice.PartMut.{put_mid, post_of}
use lib.Seq.{take-append-le}
use Rattle.std.specs.Counts.{IsPrefixLen}

pub counts : (n : ℕ) (xs : List ℕ) → n ≤ length xs → IsPrefixLen n xs
counts n xs h = (h, sym (length-take-le n xs h))

-- n bytes more at the start of a buffer, where a read put them behind the first a
pub take-put_mid_more : (a k n : ℕ) (xs ys : List ℕ) → a ≤ length xs → n ≤ length ys → take (a + n) (put_mid a k xs ys) ≡ take a xs ++ take n ys
take-put_mid_more a k n xs ys within fits =
    take-add a n (put_mid a k xs ys)
    ∙ ap (λ l. l ++ take n (drop a (put_mid a k xs ys))) (take-put_mid_below a k xs ys a (omega arith) within)
    ∙ ap (λ l. take a xs ++ take n l) (drop_at (take a xs) (ys ++ post_of a k xs) a (length-take-le a xs within))
    ∙ ap (λ l. take a xs ++ l) (take-append-le n ys (post_of a k xs) fits)

-- a read of nothing leaves them
pub take-put_mid_none : (a k n : ℕ) (xs ys : List ℕ) → n ≡ 0 → a ≤ length xs → take a (put_mid a k xs ys) ≡ take a xs ++ take n ys
take-put_mid_none a k n xs ys none within =
    take-put_mid_below a k xs ys a (omega arith) within ∙ sym (append-nil (take a xs)) ∙ ap (λ m. take a xs ++ take m ys) (sym none)
