-- The lines that are written read back: each is one line of the text, and says what was meant.
use Rattle.std.proofs.Common.{◌≡◌, refl, false, List, [], ◌∷◌, ◌++◌, append-nil, ℕ, ◌≤◌, arith, eqb, ne_eqb, Some}
use Rattle.text.specs.Bytes.{bytes, same}
use Rattle.text.specs.Lines.{lines, onto, body, empty_or_none, fields}
use Rattle.text.specs.Numbers.{numbers, decimal, of_one, of_two, of_three}
use Rattle.reader.specs.declared.Line.TheVariants.{Subsystem, Task, Resource, Uses}
use Rattle.reader.specs.Line.{of_numbers, of_kind, of_kind_field, of_fields, line_of}
use Rattle.exactly.specs.TextOf.{tabbed}
use Rattle.exactly.proofs.TextOfDecimal.{Plain, decimal_number}

-- a text that is one line, with this body
pub record OneLine (l b : List ℕ) : Type 0 where
  pub splits : (rest : List ℕ) → lines (l ++ rest) ≡ l ∷ lines rest
  pub holds : body l ≡ Some b

one_feed : OneLine (10 ∷ []) []
unfolding lines body empty_or_none
one_feed = record { splits = λ rest. refl; holds = refl }

-- a byte in front that is no line feed
one_byte : (x : ℕ) (l b : List ℕ) → eqb x 10 ≡ false → OneLine l b → OneLine (x ∷ l) (x ∷ b)
unfolding lines body onto
one_byte x l b e o = record { splits = λ rest. rw (e, lines, o.splits rest); holds = rw (e, body, o.holds) }

one_field : (f l b : List ℕ) → Plain f → OneLine l b → OneLine (f ++ l) (f ++ b)
one_field [] l b p o = o
one_field (x ∷ f) l b p o = one_byte x (f ++ l) (f ++ b) (ne_eqb x 10 (omega (arith, p.0))) (one_field f l b p.1 o)

-- the fields with the tabs between them
unfoldable pub joined : List ℕ → List (List ℕ) → List ℕ
joined f [] = f
joined f (g ∷ fs) = f ++ (9 ∷ joined g fs)

abbrev pub AllPlain : List (List ℕ) → Type 0
AllPlain [] = Unit
AllPlain (f ∷ fs) = Plain f × AllPlain fs

one_tabbed : (f : List ℕ) (fs : List (List ℕ)) → Plain f → AllPlain fs → OneLine (tabbed (f ∷ fs)) (joined f fs)
unfolding tabbed joined
one_tabbed f [] p q = rw (append-nil f) at (one_field f (10 ∷ []) [] p one_feed)
one_tabbed f (g ∷ fs) p q =
    one_field f (9 ∷ tabbed (g ∷ fs)) (9 ∷ joined g fs) p (one_byte 9 (tabbed (g ∷ fs)) (joined g fs) refl (one_tabbed g fs q.0 q.1))

-- the fields of the body are those that were written

fields_more : (f l : List ℕ) → Plain f → fields (f ++ (9 ∷ l)) ≡ f ∷ fields l
unfolding fields onto
fields_more [] l p = refl
fields_more (x ∷ f) l p = rw (ne_eqb x 9 (omega (arith, p.0)), fields, fields_more f l p.1)

fields_last : (f : List ℕ) → Plain f → fields f ≡ f ∷ []
unfolding fields onto
fields_last [] p = refl
fields_last (x ∷ f) p = rw (ne_eqb x 9 (omega (arith, p.0)), fields, fields_last f p.1)

fields_joined : (f : List ℕ) (fs : List (List ℕ)) → Plain f → AllPlain fs → fields (joined f fs) ≡ f ∷ fs
unfolding joined
fields_joined f [] p q = fields_last f p
fields_joined f (g ∷ fs) p q = rw (fields_more f (joined g fs) p, fields_joined g fs q.0 q.1)

-- so a line of plain fields says what its fields say
pub one_line : (f : List ℕ) (fs : List (List ℕ)) → Plain f → AllPlain fs → (rest : List ℕ) → lines (tabbed (f ∷ fs) ++ rest) ≡ tabbed (f ∷ fs) ∷ lines rest
one_line f fs p q = (one_tabbed f fs p q).splits

pub line_of_lem : (f : List ℕ) (fs : List (List ℕ)) → Plain f → AllPlain fs → line_of (tabbed (f ∷ fs)) ≡ of_fields (f ∷ fs)
unfolding line_of
line_of_lem f fs p q = rw ((one_tabbed f fs p q).holds, line_of, fields_joined f fs p q)

-- the numbers of one, two and three decimals

numbers_more : (n : ℕ) (fs : List (List ℕ)) (ns : List ℕ) → n ≤ 99999 → numbers fs ≡ Some ns → numbers (decimal n ∷ fs) ≡ Some (n ∷ ns)
unfolding numbers
numbers_more n fs ns h e = rw (decimal_number n h, numbers, e)

numbers_none : numbers [] ≡ Some []
unfolding numbers
numbers_none = refl

-- the four kinds of line

pub subsystem_line : (a b : ℕ) → a ≤ 99999 → b ≤ 99999 → of_fields (bytes "S" ∷ decimal a ∷ decimal b ∷ []) ≡ Some (Subsystem a b)
unfolding of_fields bytes same of_numbers of_two
subsystem_line a b h k = rw (numbers_more a (decimal b ∷ []) (b ∷ []) h (numbers_more b [] [] k numbers_none), of_numbers)

pub task_line : (s : ℕ) → s ≤ 99999 → of_fields (bytes "T" ∷ decimal s ∷ []) ≡ Some (Task s)
unfolding of_fields bytes same of_numbers of_one
task_line s h = rw (numbers_more s [] [] h numbers_none, of_numbers)

pub local_line : of_fields (bytes "R" ∷ bytes "L" ∷ []) ≡ Some (Resource 0)
unfolding of_fields of_kind_field of_kind bytes same
local_line = refl

pub global_line : of_fields (bytes "R" ∷ bytes "G" ∷ []) ≡ Some (Resource 1)
unfolding of_fields of_kind_field of_kind bytes same
global_line = refl

pub use_line : (t r m : ℕ) → t ≤ 99999 → r ≤ 99999 → m ≤ 99999 → of_fields (bytes "U" ∷ decimal t ∷ decimal r ∷ decimal m ∷ []) ≡ Some (Uses t r m)
unfolding of_fields bytes same of_numbers of_three
use_line t r m h k l =
    rw (
      numbers_more t (decimal r ∷ decimal m ∷ []) (r ∷ m ∷ []) h (numbers_more r (decimal m ∷ []) (m ∷ []) k (numbers_more m [] [] l numbers_none)),
      of_numbers,
    )
