-- Laws of the list of the values at the numbers below n: its length and entries, and how it grows.
use Rattle.std.proofs.Common.{◌≡◌, refl, sym, ap, ◌∙◌, ⊎_elim, List, [], ◌∷◌, ◌++◌, append_assoc, ℕ, zero, suc, ◌<◌, lt-suc_self, arith, length, get_or, length-append, ext_get_or}
use native.Mathlib.Nat.{le_step}
use lib.ListN.{get_or-append}
use lib.Seq.{get_or_at}
use Rattle.below.specs.Listed.{listed, listed_onto}
use Rattle.below.proofs.Search.{last_or_before}

module _ {A : Type 0} where
  pub listed_onto_append : (n : ℕ) (f : ℕ → A) (l : List A) → listed_onto n f l ≡ listed n f ++ l
  unfolding listed listed_onto
  listed_onto_append zero f l = refl
  listed_onto_append (suc n) f l =
      listed_onto_append n f (f n ∷ l)
      ∙ sym (append_assoc (listed n f) (f n ∷ []) l)
      ∙ ap (λ (m : List A). m ++ l) (sym (listed_onto_append n f (f n ∷ [])))

  -- one more number is one more entry, at the end
  pub listed_suc : (n : ℕ) (f : ℕ → A) → listed (suc n) f ≡ listed n f ++ (f n ∷ [])
  unfolding listed listed_onto
  listed_suc n f = listed_onto_append n f (f n ∷ [])

  pub length_listed : (n : ℕ) (f : ℕ → A) → length (listed n f) ≡ n
  unfolding listed listed_onto
  length_listed zero f = refl
  length_listed (suc n) f =
      rw listed_suc (length-append (listed n f) (f n ∷ []) ∙ omega (arith, length_listed n f))

  pub get_or_listed : (n : ℕ) (f : ℕ → A) (k : ℕ) (d : A) → k < n → get_or (listed n f) k d ≡ f k
  get_or_listed zero f k d h = absurd (omega arith)
  get_or_listed (suc n) f k d h =
      rw listed_suc
      (⊎_elim
      (λ e. rw e (get_or_at (listed n f) (f n) [] d n (length_listed n f)))
      (λ l. get_or-append (listed n f) (f n ∷ []) d k (rw length_listed l) ∙ get_or_listed n f k d l)
      (last_or_before h))

  -- a list with these entries is the list
  pub listed_is : (n : ℕ) (f : ℕ → A) (d : A) (l : List A) → length l ≡ n → ((k : ℕ) → k < n → get_or l k d ≡ f k) → l ≡ listed n f
  listed_is n f d l e h =
      ext_get_or d l (listed n f) (e ∙ sym (length_listed n f))
      (λ k u. let v : k < n = omega arith in h k v ∙ sym (get_or_listed n f k d v))

  pub listed_agree : (n : ℕ) (f g : ℕ → A) → ((k : ℕ) → k < n → f k ≡ g k) → listed n f ≡ listed n g
  unfolding listed listed_onto
  listed_agree zero f g e = refl
  listed_agree (suc n) f g e =
      rw (listed_suc n f, listed_suc n g, listed_agree n f g (λ k h. e k (le_step h)), e n (lt-suc_self n))

  -- every list is the list of its entries
  pub listed_get_or : (d : A) (l : List A) (n : ℕ) → length l ≡ n → listed n (λ k. get_or l k d) ≡ l
  listed_get_or d l n e = sym (listed_is n (λ k. get_or l k d) d l e (λ k h. refl))
