-- 27 in one pass: that any two tasks that declare a resource have the same subsystem is that each has that of the first that declares it.
use Rattle.std.proofs.Common.{◌≡◌, refl, sym, ap, ◌∙◌, Bool, true, false, not, ◌||◌, ℕ, ◌<◌, arith, eqb, eqb-true, eq-eqb}
use Rattle.below.specs.Below.{all, first}
use Rattle.plan.specs.declared.Plan.{Plan}
use Rattle.plan.specs.Plan.{owner, is_global, declares, foremost}
use Rattle.plan.specs.Ceiling.{local_ceiling}
use Rattle.plan.specs.Accepted.{one_subsystem}
use Rattle.plan.specs.Parts.{used_from}
use Rattle.below.proofs.Tests.{same_truth}
use Rattle.below.proofs.Search.{all_at, all_of, first_most, first_passes}

module _ (n : ℕ) (d : ℕ → Bool) (o : ℕ → ℕ) where
  abbrev with_first : ℕ → Bool
  with_first k = not (d k) || eqb (o (first n d)) (o k)

  abbrev together : ℕ → ℕ → Bool
  together j k = not (d j) || not (d k) || eqb (o j) (o k)

  -- of a task that declares
  owner_is : (k : ℕ) → d k ≡ true → with_first k ≡ true → o (first n d) ≡ o k
  owner_is k e t = eqb-true (o (first n d)) (o k) (rw e at t)

  pairs : all n with_first ≡ true → (j : ℕ) → j < n → (k : ℕ) → k < n → together j k ≡ true
  pairs t j hj k hk = go (d j) refl (d k) refl
    where
      go : (a : Bool) → d j ≡ a → (b : Bool) → d k ≡ b → (not a || not b || eqb (o j) (o k)) ≡ true
      go false ej b ek = refl
      go true ej false ek = refl
      go true ej true ek =
          eq-eqb (o j) (o k) (sym (owner_is j ej (all_at n with_first t j hj)) ∙ owner_is k ek (all_at n with_first t k hk))

  each : ((j : ℕ) → j < n → (k : ℕ) → k < n → together j k ≡ true) → (k : ℕ) → k < n → with_first k ≡ true
  each f k hk = go (d k) refl
    where
      go : (b : Bool) → d k ≡ b → (not b || eqb (o (first n d)) (o k)) ≡ true
      go false ek = refl
      go true ek =
          let h : first n d < n = omega (arith, first_most n d k ek) in
          rw (first_passes n d h, ek) at (f (first n d) h k hk)

  with_first_lem : all n with_first ≡ all n (λ j. all n (together j))
  with_first_lem =
      same_truth (all n with_first) (all n (λ j. all n (together j)))
      (λ t. all_of n (λ j. all n (together j)) (λ j hj. all_of n (together j) (pairs t j hj)))
      (λ t. all_of n with_first (each (λ j hj. all_at n (together j) (all_at n (λ i. all n (together i)) t j hj))))

pub one_pass : (p : Plan) (r : ℕ) → one_subsystem p r ≡ (is_global p r || all p.tasks (used_from p r (owner p (local_ceiling p r))))
unfolding one_subsystem used_from local_ceiling foremost
one_pass p r = ap (λ b. is_global p r || b) (sym (with_first_lem p.tasks (λ t. declares p t r) (owner p)))
