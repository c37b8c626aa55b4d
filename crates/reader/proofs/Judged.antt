-- Laws of what is said of a line: how the order of the table is followed.
use Rattle.std.proofs.Common.{◌≡◌, Bool, true, false, not, ◌&&◌, [], ◌∷◌, ℕ, ◌<◌, eqb, Option, Some, Err}
use borrow.Author.Tests.{lt-leb}
use Rattle.below.specs.Below.{any}
use Rattle.plan.specs.declared.Plan.{Plan}
use Rattle.plan.specs.Plan.{is_global, declares, owner}
use Rattle.reader.specs.declared.refusals.Refusal.TheVariants.{NotGrammar, NoSuchRow, OutOfRange, Twice, TwoSubsystems, AboveBudget}
use Rattle.reader.specs.declared.Line.{Line}
use Rattle.reader.specs.declared.Line.TheVariants.{Uses}
use Rattle.reader.specs.Conditions.{not_grammar, too_many_rows, no_such_row, out_of_range, twice, two_subsystems, above_budget}
use Rattle.reader.specs.Reading.{first_of, judged}
use Rattle.reader.specs.Judged.{judged_rows}

-- 21, then 22, then the rest
module _ (p : Plan) (last n : ℕ) (l : Option Line) where
  pub judged_grammar : not_grammar l ≡ true → judged p last n l ≡ Err (NotGrammar n)
  unfolding judged first_of
  judged_grammar e = rw (judged, e)

-- the tests of a U line
pub use_tests : (p : Plan) (n t r l : ℕ) {a b c d e : Bool}
    → no_such_row p (Some (Uses t r l)) ≡ a → out_of_range p (Some (Uses t r l)) ≡ b → declares p t r ≡ c → two_subsystems p (Some (Uses t r l)) ≡ d → above_budget p (Some (Uses t r l)) ≡ e
    → judged_rows p n (Some (Uses t r l)) ≡ first_of ((a, NoSuchRow n) ∷ (b, OutOfRange n) ∷ (c, Twice n) ∷ (d, TwoSubsystems n) ∷ (e, AboveBudget n) ∷ [])
unfolding judged_rows first_of too_many_rows twice
use_tests p n t r l i j k m o =
    λ x. first_of ((i x, NoSuchRow n) ∷ (j x, OutOfRange n) ∷ (k x, Twice n) ∷ (m x, TwoSubsystems n) ∷ (o x, AboveBudget n) ∷ [])

-- 24: neither the task nor the resource is missing
pub both_rows : (p : Plan) (t r l : ℕ) → t < p.tasks → r < p.resources → no_such_row p (Some (Uses t r l)) ≡ false
unfolding no_such_row
both_rows p t r l h k = rw (lt-leb p.tasks t h, lt-leb p.resources r k)

-- 27: a global resource never, a local one where a task is apart from the owner
module _ (p : Plan) (t r l : ℕ) where
  pub never_two : is_global p r ≡ true → two_subsystems p (Some (Uses t r l)) ≡ false
  unfolding two_subsystems
  never_two g = rw g

  pub two_apart : is_global p r ≡ false → {o : ℕ} → o ≡ owner p t
      → two_subsystems p (Some (Uses t r l)) ≡ any p.tasks (λ k. declares p k r && not (eqb (owner p k) o))
  unfolding two_subsystems
  two_apart g e = rw (g, e)
