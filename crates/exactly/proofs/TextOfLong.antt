-- The text of an accepted plan is short enough to be read.
use Rattle.std.proofs.Common.{◌≡◌, Bool, true, false, List, [], ◌∷◌, ℕ, zero, suc, ◌+◌, ◌*◌, ◌≤◌, ◌<◌, lt-suc_self, arith, length, length-append}
use native.Mathlib.Nat.{le_step}
use Rattle.text.specs.Bytes.{bytes}
use Rattle.text.specs.Numbers.{decimal}
use Rattle.plan.specs.declared.Plan.{Plan}
use Rattle.plan.specs.Plan.{period, budget, owner, is_global, place, length_of, declares}
use Rattle.reader.specs.Reading.{most_bytes}
use Rattle.exactly.specs.TextOf.{tabbed, texts, subsystem_text, task_text, kind_text, resource_text, use_text, text_of}
use Rattle.exactly.proofs.SoundPlan.{Sound}
use Rattle.exactly.proofs.SoundFacts.{sound_ranged}
use Rattle.exactly.proofs.TextOfDecimal.{decimal_long}

-- texts of at most c bytes each
texts_long : (n c : ℕ) (f : ℕ → List ℕ) → ((i : ℕ) → i < n → length (f i) ≤ c) → length (texts n f) ≤ n * c
unfolding texts
texts_long zero c f h = omega arith
texts_long (suc n) c f h =
    omega (arith, length-append (texts n f) (f n), texts_long n c f (λ i u. h i (le_step u)), h n (lt-suc_self n))

-- a line of one, two or three fields behind its letter
two_long : (f g : List ℕ) → length (tabbed (f ∷ g ∷ [])) ≡ length f + length g + 2
unfolding tabbed
two_long f g = simp length-append (omega arith)

three_long : (f g h : List ℕ) → length (tabbed (f ∷ g ∷ h ∷ [])) ≡ length f + length g + length h + 3
unfolding tabbed
three_long f g h = simp length-append (omega arith)

four_long : (f g h k : List ℕ) → length (tabbed (f ∷ g ∷ h ∷ k ∷ [])) ≡ length f + length g + length h + length k + 4
unfolding tabbed
four_long f g h k = simp length-append (omega arith)

module _ (p : Plan) (w : Sound p) where
  subsystem_long : (i : ℕ) → i < p.subsystems → length (subsystem_text p i) ≤ 14
  unfolding subsystem_text bytes period budget
  subsystem_long i h =
      let f = w.periods_fit.fits i h in
      let g = w.budgets_fit.fits i h in
      omega (
        arith,
        three_long (bytes "S") (decimal (period p i)) (decimal (budget p i)),
        decimal_long (period p i) (omega arith),
        decimal_long (budget p i) (omega arith),
      )

  task_long : (i : ℕ) → i < p.tasks → length (task_text p i) ≤ 8
  unfolding task_text bytes owner
  task_long i h =
      omega (
        arith,
        two_long (bytes "T") (decimal (owner p i)),
        decimal_long (owner p i) (omega (arith, w.owners_fit.fits i h, w.periods_fit.few)),
      )

  resource_long : (i : ℕ) → i < p.resources → length (resource_text p i) ≤ 4
  unfolding resource_text kind_text bytes
  resource_long i h = go (is_global p i)
    where
      go : (b : Bool) → length (tabbed (bytes "R" ∷ elim b [ true ↦ bytes "G" | false ↦ bytes "L" ] ∷ [])) ≤ 4
      go true = omega (arith, two_long (bytes "R") (bytes "G"))
      go false = omega (arith, two_long (bytes "R") (bytes "L"))

  use_long : (t : ℕ) → t < p.tasks → (r : ℕ) → r < p.resources → length (use_text p t r) ≤ 20
  unfolding use_text bytes length_of
  use_long t h r k = go (declares p t r)
    where
      go : (b : Bool) → length {A = ℕ} (elim b [ true ↦ tabbed (bytes "U" ∷ decimal t ∷ decimal r ∷ decimal (length_of p t r) ∷ []) | false ↦ [] ]) ≤ 20
      go true =
          omega (
            arith,
            four_long (bytes "U") (decimal t) (decimal r) (decimal (length_of p t r)),
            decimal_long t (omega (arith, w.owners_fit.few)),
            decimal_long r (omega (arith, w.kinds_fit.few)),
            decimal_long (length_of p t r) (omega (arith, (sound_ranged p w).lengths_small (place t r))),
          )
      go false = omega arith

  pub text_long : length (text_of p) ≤ most_bytes
  unfolding text_of
  text_long = simp length-append
      (omega (
        arith,
        texts_long p.subsystems 14 (subsystem_text p) subsystem_long,
        texts_long p.tasks 8 (task_text p) task_long,
        texts_long p.resources 4 (resource_text p) resource_long,
        texts_long p.tasks 320 (λ t. texts p.resources (use_text p t)) uses_long,
        w.periods_fit.few,
        w.owners_fit.few,
        w.kinds_fit.few,
      ))
    where
      uses_long : (t : ℕ) → t < p.tasks → length (texts p.resources (use_text p t)) ≤ 320
      uses_long t h = omega (arith, texts_long p.resources 20 (use_text p t) (use_long t h), w.kinds_fit.few)
