-- A text by its first separator, be that the line feed or the tab: the laws of lines and fields go by these two cases.
use Rattle.std.proofs.Common.{◌≡◌, refl, sym, subst, Bool, true, false, List, [], ◌∷◌, ℕ, zero, suc, ◌≤◌, ◌<◌, not-suc-le-zero, le_of_suc-le-suc, arith, eqb, length, get_or, eqb-true}
use Rattle.text.specs.Lines.{until}

-- the first b stands at m
pub data Parted (b : ℕ) : List ℕ → ℕ → Type 0 where
  here : {xs : List ℕ} → Parted b (b ∷ xs) zero
  on : {x : ℕ} {xs : List ℕ} {m : ℕ} → eqb x b ≡ false → Parted b xs m → Parted b (x ∷ xs) (suc m)

-- there is no b
pub data Whole (b : ℕ) : List ℕ → Type 0 where
  end : Whole b []
  on : {x : ℕ} {xs : List ℕ} → eqb x b ≡ false → Whole b xs → Whole b (x ∷ xs)

pub parted : (b : ℕ) (t : List ℕ) → until b t < length t → Parted b t (until b t)
unfolding until
parted b [] h = absurd (not-suc-le-zero h)
parted b (x ∷ xs) h = go (eqb x b) refl (parted b xs) h
  where
    go : (c : Bool) → eqb x b ≡ c → (until b xs < length xs → Parted b xs (until b xs))
        → elim c [ true ↦ zero | false ↦ suc (until b xs) ] < suc (length xs)
        → Parted b (x ∷ xs) (elim c [ true ↦ zero | false ↦ suc (until b xs) ])
    go true e f l = subst (λ (y : ℕ). Parted b (y ∷ xs) zero) (sym (eqb-true x b e)) here
    go false e f l = Parted.on e (f (le_of_suc-le-suc l))

pub whole : (b : ℕ) (t : List ℕ) → length t ≤ until b t → Whole b t
unfolding until
whole b [] h = end
whole b (x ∷ xs) h = go (eqb x b) refl (whole b xs) h
  where
    go : (c : Bool) → eqb x b ≡ c → (length xs ≤ until b xs → Whole b xs)
        → suc (length xs) ≤ elim c [ true ↦ zero | false ↦ suc (until b xs) ] → Whole b (x ∷ xs)
    go true e f l = absurd (not-suc-le-zero l)
    go false e f l = Whole.on e (f (le_of_suc-le-suc l))

pub parted_at : {b : ℕ} {t : List ℕ} {m : ℕ} → Parted b t m → get_or t m 0 ≡ b
parted_at here = refl
parted_at (Parted.on e p) = parted_at p

pub parted_before : {b : ℕ} {t : List ℕ} {m : ℕ} → Parted b t m → m < length t
parted_before here = omega arith
parted_before (Parted.on e p) = omega (arith, parted_before p)
