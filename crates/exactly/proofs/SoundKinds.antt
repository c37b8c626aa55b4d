-- An R line says local or global and nothing else.
use Rattle.std.proofs.Common.{Bool, true, false, List, [], ◌∷◌, ℕ, ◌≤◌, arith, Option, Some, None}
use Rattle.text.specs.Bytes.{bytes, same}
use Rattle.text.specs.Lines.{body, fields}
use Rattle.text.specs.Numbers.{numbers, of_one, of_two, of_three}
use Rattle.reader.specs.declared.Line.{Line}
use Rattle.reader.specs.declared.Line.TheVariants.{Resource}
use Rattle.reader.specs.Line.{as_subsystem, as_task, as_uses, of_numbers, of_kind, of_kind_field, of_fields, line_of}
use Rattle.exactly.proofs.ListedTied.{kind_said}

-- a line of numbers, where none of the lines made of numbers is an R line
kind_of_numbers : (f : List ℕ → Option Line) (fs : List (List ℕ)) → ((ns : List ℕ) → kind_said (f ns) ≤ 1) → kind_said (of_numbers f fs) ≤ 1
unfolding of_numbers kind_said
kind_of_numbers f fs h = go (numbers fs)
  where
    go : (o : Option (List ℕ)) → kind_said (elim o [ None ↦ None | Some ns ↦ f ns ]) ≤ 1
    go None = omega arith
    go (Some ns) = h ns

kind_of_one : (ns : List ℕ) → kind_said (of_one None as_task ns) ≤ 1
unfolding of_one kind_said
kind_of_one [] = omega arith
kind_of_one (a ∷ []) = omega arith
kind_of_one (a ∷ b ∷ ns) = omega arith

kind_of_two : (ns : List ℕ) → kind_said (of_two None as_subsystem ns) ≤ 1
unfolding of_two kind_said
kind_of_two [] = omega arith
kind_of_two (a ∷ []) = omega arith
kind_of_two (a ∷ b ∷ []) = omega arith
kind_of_two (a ∷ b ∷ c ∷ ns) = omega arith

kind_of_three : (ns : List ℕ) → kind_said (of_three None as_uses ns) ≤ 1
unfolding of_three kind_said
kind_of_three [] = omega arith
kind_of_three (a ∷ []) = omega arith
kind_of_three (a ∷ b ∷ []) = omega arith
kind_of_three (a ∷ b ∷ c ∷ []) = omega arith
kind_of_three (a ∷ b ∷ c ∷ d ∷ ns) = omega arith

kind_of_kind : (k : List ℕ) → kind_said (of_kind k) ≤ 1
unfolding of_kind kind_said
kind_of_kind k = go (same k (bytes "L")) (same k (bytes "G"))
  where
    go : (a b : Bool) → kind_said (elim a [ true ↦ Some (Resource 0) | false ↦ elim b [ true ↦ Some (Resource 1) | false ↦ None ] ]) ≤ 1
    go true b = omega arith
    go false true = omega arith
    go false false = omega arith

kind_of_field : (fs : List (List ℕ)) → kind_said (of_kind_field fs) ≤ 1
unfolding of_kind_field kind_said
kind_of_field [] = omega arith
kind_of_field (k ∷ []) = kind_of_kind k
kind_of_field (k ∷ f ∷ fs) = omega arith

kind_of_fields : (fs : List (List ℕ)) → kind_said (of_fields fs) ≤ 1
unfolding of_fields kind_said
kind_of_fields [] = omega arith
kind_of_fields (k ∷ fs) = go (same k (bytes "S")) (same k (bytes "T")) (same k (bytes "R")) (same k (bytes "U"))
  where
    go : (a b c d : Bool) → kind_said
        (elim a [
          | true ↦ of_numbers (of_two None as_subsystem) fs
          | false ↦ elim b [
            | true ↦ of_numbers (of_one None as_task) fs
            | false ↦ elim c [
              | true ↦ of_kind_field fs
              | false ↦ elim d [ true ↦ of_numbers (of_three None as_uses) fs | false ↦ None ]
            ]
          ]
        ]) ≤ 1
    go true b c d = kind_of_numbers (of_two None as_subsystem) fs kind_of_two
    go false true c d = kind_of_numbers (of_one None as_task) fs kind_of_one
    go false false true d = kind_of_field fs
    go false false false true = kind_of_numbers (of_three None as_uses) fs kind_of_three
    go false false false false = omega arith

pub kind_of_line : (l : List ℕ) → kind_said (line_of l) ≤ 1
unfolding line_of kind_said
kind_of_line l = go (body l)
  where
    go : (o : Option (List ℕ)) → kind_said (elim o [ None ↦ None | Some b ↦ of_fields (fields b) ]) ≤ 1
    go None = omega arith
    go (Some b) = kind_of_fields (fields b)
