-- No event line has more than 20 bytes: 7 for the longest name, 5 for a row, at most two rows, and a byte behind each.
use Rattle.std.proofs.Common.{◌≡◌, ℕ, suc, ◌+◌, ◌*◌, ◌≤◌, ◌<◌, List, [], ◌∷◌, Bool, true, false, length, refl, ap, ◌∙◌, arith}
use Rattle.std.specs.Prelude.{Option, Some, None, ltb, eqb}
use Rattle.std.specs.Option.{option_map, option_and_then}
use borrow.Author.Tests.{ltb-true, ltb-false}
use Rattle.text.specs.Bytes.{bytes, same}
use Rattle.text.specs.Lines.{tab, line_feed, onto, body, empty_or_none, fields}
use Rattle.text.specs.Numbers.{number, numbers, of_none, of_one, of_two}
use Rattle.text.proofs.Numbers.{number_long}
use Rattle.step.specs.declared.Kind.{Kind}
use Rattle.step.specs.declared.Kind.TheVariants.{Release, Lock, Unlock, End, Tick}
use Rattle.line.specs.declared.Event.{Event}
use Rattle.line.specs.Event.{of_name, of_fields, event_of}
use Rattle.line.specs.Named.{kind_of, of_kind}
use Rattle.line.proofs.Same.{same_lengths}
use Rattle.line.proofs.Behind.{numbers_not, numbers_is}
use Rattle.line.proofs.Names.{by_kind}

-- how many bytes Some fields take, each with the byte behind it
weight : List (List ℕ) → ℕ
weight [] = 0
weight (f ∷ fs) = suc (length f) + weight fs

fields_weight : (t : List ℕ) → weight (fields t) ≡ suc (length t)
unfolding weight fields onto
fields_weight [] = refl
fields_weight (b ∷ bs) = go (eqb b tab) (fields bs) (fields_weight bs)
  where
    go : (x : Bool) (ls : List (List ℕ)) → weight ls ≡ suc (length bs) → weight (elim x [ true ↦ [] ∷ ls | false ↦ onto b ls ]) ≡ suc (suc (length bs))
    go true ls e = omega (arith, e)
    go false [] e = absurd (omega (arith, e))
    go false (l ∷ ls) e = omega (arith, e)

-- a number has at most 5 digits
digits_few : (f : List ℕ) (n : ℕ) → number f ≡ Some n → length f ≤ 5
digits_few f n e = go (ltb 5 (length f)) refl
  where
    go : (b : Bool) → ltb 5 (length f) ≡ b → length f ≤ 5
    go true t =
        let l = number_long f (ltb-true 5 (length f) t) in
        absurd cc
    go false t = ltb-false 5 (length f) t

numbers_weight : (fs : List (List ℕ)) (ns : List ℕ) → numbers fs ≡ Some ns → weight fs ≤ 6 * length ns
unfolding weight
numbers_weight [] ns e = omega arith
numbers_weight (f ∷ fs) ns e = go (number f) refl (numbers fs) refl (numbers_weight fs)
  where
    go : (x : Option ℕ) → number f ≡ x → (o : Option (List ℕ)) → numbers fs ≡ o
        → ((ms : List ℕ) → numbers fs ≡ Some ms → weight fs ≤ 6 * length ms) → weight (f ∷ fs) ≤ 6 * length ns
    go None t o q ih =
        let l = numbers_not f fs t in
        absurd cc
    go (Some n) t None q ih =
        let l : numbers (f ∷ fs) ≡ None = rw q at (numbers_is f fs n t) in
        absurd cc
    go (Some n) t (Some ms) q ih =
        let l : numbers (f ∷ fs) ≡ Some (n ∷ ms) = rw q at (numbers_is f fs n t) in
        let k : ns ≡ n ∷ ms = cc in
        omega (arith, ap length k, digits_few f n t, ih ms q)

-- a name has at most 7 bytes, and uses at most 2 rows
name_long : (name ns : List ℕ) → 7 < length name → of_name name ns ≡ None
unfolding bytes of_name
name_long name ns h =
    let no : (t : List ℕ) → length t ≤ 7 → same name t ≡ false = λ t l. same_lengths name t (λ e. omega arith) in
    rw (
      of_name,
      no (bytes "release") (omega arith),
      no (bytes "lock") (omega arith),
      no (bytes "unlock") (omega arith),
      no (bytes "end") (omega arith),
      no (bytes "tick") (omega arith),
    )

rows_many : (name : List ℕ) (n m k : ℕ) (ns : List ℕ) → of_name name (n ∷ m ∷ k ∷ ns) ≡ None
unfolding of_kind of_one of_two of_none
rows_many name n m k ns = by_kind name _ ∙ go (kind_of name)
  where
    go : (o : Option Kind) → option_and_then (λ kind. of_kind kind (n ∷ m ∷ k ∷ ns)) o ≡ None
    go None = refl
    go (Some Release) = refl
    go (Some Lock) = refl
    go (Some Unlock) = refl
    go (Some End) = refl
    go (Some Tick) = refl

heavy : (fs : List (List ℕ)) → 20 < weight fs → of_fields fs ≡ None
unfolding of_fields weight
heavy [] h = refl
heavy (name ∷ fs) h = go (numbers fs) refl
  where
    few : (ns : List ℕ) → 12 < 6 * length ns → of_name name ns ≡ None
    few [] l = absurd (omega arith)
    few (n ∷ []) l = absurd (omega arith)
    few (n ∷ m ∷ []) l = absurd (omega arith)
    few (n ∷ m ∷ k ∷ ns) l = rows_many name n m k ns

    named : (ns : List ℕ) → numbers fs ≡ Some ns → (b : Bool) → ltb 7 (length name) ≡ b → of_name name ns ≡ None
    named ns q true t = name_long name ns (ltb-true 7 (length name) t)
    named ns q false t = few ns (omega (arith, ltb-false 7 (length name) t, numbers_weight fs ns q))

    go : (o : Option (List ℕ)) → numbers fs ≡ o → ◌≡◌ {A = Option Event} (elim o [ None ↦ None | Some ns ↦ of_name name ns ]) None
    go None q = refl
    go (Some ns) q = named ns q (ltb 7 (length name)) refl

-- the line feed is one byte more
body_length : (t b : List ℕ) → body t ≡ Some b → length t ≡ suc (length b)
unfolding body empty_or_none
body_length [] b e =
    absurd cc
body_length (x ∷ xs) b e = go (eqb x line_feed) xs (body xs) e (body_length xs)
  where
    go : (f : Bool) (ys : List ℕ) (o : Option (List ℕ)) → elim f [ true ↦ empty_or_none ys | false ↦ option_map (λ l. x ∷ l) o ] ≡ Some b
        → ((c : List ℕ) → o ≡ Some c → length ys ≡ suc (length c)) → suc (length ys) ≡ suc (length b)
    go true [] o q ih =
        let k : b ≡ [] = cc in
        rw k
    go true (y ∷ ys) o q ih =
        absurd cc
    go false ys None q ih =
        absurd cc
    go false ys (Some c) q ih =
        let k : b ≡ x ∷ c = cc in
        rw k (ap suc (ih c refl))

pub long_line : (line : List ℕ) → 20 < length line → event_of line ≡ None
unfolding event_of
long_line line h = go (body line) refl
  where
    go : (o : Option (List ℕ)) → body line ≡ o → ◌≡◌ {A = Option Event} (elim o [ None ↦ None | Some b ↦ of_fields (fields b) ]) None
    go None q = refl
    go (Some b) q = heavy (fields b) (omega (arith, fields_weight b, body_length line b q))
