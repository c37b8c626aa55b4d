-- Laws of an event line's name: its kind, and that the kind says as much as the name.
use Rattle.std.proofs.Common.{◌≡◌, ℕ, List, [], ◌∷◌, Bool, true, false, refl, ◌∙◌}
use Rattle.std.specs.Prelude.{Option, Some, None}
use Rattle.std.specs.Option.{option_and_then}
use mathlib.Core.Logic.{◌⊎◌, ⊎_elim}
use Rattle.text.specs.Bytes.{bytes, same}
use Rattle.text.specs.Lines.{fields}
use Rattle.text.specs.Numbers.{numbers, of_none, of_one, of_two}
use Rattle.step.specs.declared.Kind.{Kind}
use Rattle.step.specs.declared.Kind.TheVariants.{Release, Lock, Unlock, End, Tick}
use Rattle.line.specs.declared.Event.{Event}
use Rattle.line.specs.Event.{known, of_name, of_fields}
use Rattle.line.specs.Named.{kind_of, of_kind}
use Rattle.line.proofs.Behind.{tick_rest}

-- the name decides by its kind alone
pub by_kind : (name ns : List ℕ) → of_name name ns ≡ option_and_then (λ kind. of_kind kind ns) (kind_of name)
unfolding of_name kind_of of_kind
by_kind name ns =
    go (same name (bytes "release")) (same name (bytes "lock")) (same name (bytes "unlock")) (same name (bytes "end")) (same name (bytes "tick"))
  where
    go : (r l u e t : Bool)
        → elim r [
          | true ↦ of_one None (λ k. known Release k 0) ns
          | false ↦ elim l [
            | true ↦ of_two None (known Lock) ns
            | false ↦ elim u [
              | true ↦ of_two None (known Unlock) ns
              | false ↦ elim e [
                | true ↦ of_one None (λ k. known End k 0) ns
                | false ↦ elim t [ true ↦ of_none None (known Tick 0 0) ns | false ↦ None ]
              ]
            ]
          ]
        ]
        ≡ option_and_then (λ kind. of_kind kind ns)
        (elim r [ true ↦ Some Release | false ↦ elim l [ true ↦ Some Lock | false ↦ elim u [ true ↦ Some Unlock | false ↦ elim e [ true ↦ Some End | false ↦ elim t [ true ↦ Some Tick | false ↦ None ] ] ] ] ])
    go true l u e t = refl
    go false true u e t = refl
    go false false true e t = refl
    go false false false true t = refl
    go false false false false true = refl
    go false false false false false = refl

-- so do the fields
module _ (name : List ℕ) (fs : List (List ℕ)) where
  pub fields_kind : {kind : Kind} → kind_of name ≡ Some kind → of_fields (name ∷ fs) ≡ option_and_then (of_kind kind) (numbers fs)
  unfolding of_fields
  fields_kind {kind} k = go (numbers fs)
    where
      go : (o : Option (List ℕ)) → elim o [ None ↦ None | Some ns ↦ of_name name ns ] ≡ option_and_then (of_kind kind) o
      go None = refl
      go (Some ns) = by_kind name ns ∙ rw k

  pub fields_other : kind_of name ≡ None → of_fields (name ∷ fs) ≡ None
  unfolding of_fields
  fields_other k = go (numbers fs)
    where
      go : (o : Option (List ℕ)) → ◌≡◌ {A = Option Event} (elim o [ None ↦ None | Some ns ↦ of_name name ns ]) None
      go None = refl
      go (Some ns) = by_kind name ns ∙ rw k

-- what a kind makes of its numbers
module _ (kind : Kind) where
  pub kind_one : (kind ≡ Release) ⊎ (kind ≡ End) → (o : Option (List ℕ)) → option_and_then (of_kind kind) o ≡ option_and_then (of_one None (λ k. known kind k 0)) o
  unfolding of_kind
  kind_one e o = ⊎_elim (λ z. rw z) (λ z. rw z) e

  pub kind_two : (kind ≡ Lock) ⊎ (kind ≡ Unlock) → (o : Option (List ℕ)) → option_and_then (of_kind kind) o ≡ option_and_then (of_two None (known kind)) o
  unfolding of_kind
  kind_two e o = ⊎_elim (λ z. rw z) (λ z. rw z) e

  -- a tick has rows too many
  pub kind_rows : kind ≡ Tick → (t : List ℕ) → option_and_then (of_kind kind) (numbers (fields t)) ≡ None
  unfolding of_kind
  kind_rows e t = rw e (tick_rest (known Tick 0 0) t)

-- a name alone
pub alone_tick : (kind : Kind) → kind ≡ Tick → option_and_then (of_kind kind) (numbers []) ≡ known kind 0 0
unfolding of_kind numbers of_none
alone_tick kind e = rw e

pub alone_other : (kind : Kind) → (kind ≡ Tick → ⊥) → option_and_then (of_kind kind) (numbers []) ≡ None
unfolding of_kind numbers of_none of_one of_two
alone_other Release n = refl
alone_other Lock n = refl
alone_other Unlock n = refl
alone_other End n = refl
alone_other Tick n = absurd (n refl)
