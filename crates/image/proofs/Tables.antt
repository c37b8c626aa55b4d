-- What `array::from_fn` makes of a closure that keeps nothing: the values at the numbers below its length.
use Rattle.std.proofs.Common.{◌≡◌, ℕ, zero, suc, ◌+◌, ◌<◌, List, get_or, refl, sym, subst, ◌∙◌, arith, zero-add}
use Rattle.std.specs.Array.{IsFromFnResultFrom, IsFromFnResult}
use Rattle.std.specs.Fn.{Called}
use denote.Param.Members.{Mut}
use Rattle.below.specs.Listed.{listed}
use Rattle.below.proofs.Listed.{listed_is}

module _ {F B : Type 0} {g : Mut F (ℕ × Unit {0}) B} (h : ℕ → B) (d : B) where
  entry : (f : F) (ys : List B) → ((x : ℕ) (y : B) (q : F) → Called g f (x, tt) y q → (q ≡ f) × (y ≡ h x))
      → (i n : ℕ) (p : F) → p ≡ f → IsFromFnResultFrom g p ys i n → (k j : ℕ) → k < n → j ≡ i + k → get_or ys j d ≡ h j
  entry f ys pure i zero p e r k j u q = absurd (omega arith)
  entry f ys pure i (suc n) p e (p', y, at, called, rest) zero j u q =
      let came = pure i y p' (subst (λ (z : F). Called g z (i, tt) y p') e called) in
      let here : j ≡ i = omega arith in
      rw here (at.1 d ∙ came.1)
  entry f ys pure i (suc n) p e (p', y, at, called, rest) (suc k) j u q =
      let came = pure i y p' (subst (λ (z : F). Called g z (i, tt) y p') e called) in
      entry f ys pure (i + 1) n p' came.0 rest k j (omega arith) (omega arith)

  pub table_is : {f : F} {ys : List B} (n : ℕ) → IsFromFnResult g f ys n → ((x : ℕ) (y : B) (q : F) → Called g f (x, tt) y q → (q ≡ f) × (y ≡ h x)) → ys ≡ listed n h
  table_is {f} {ys} n r pure = listed_is n h d ys r.long (λ k u. entry f ys pure 0 n f refl r.each k k u (sym (zero-add k)))
