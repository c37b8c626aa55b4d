-- "Events": a row that is past 254 is as good as 255, for no accepted plan has it; and what a kind of no event gives.
use mathlib.Core.Path.{◌≡◌, refl, sym, ◌∙◌}
use mathlib.Core.Bool.{Bool, true, false}
use mathlib.Core.List.{List, [], ◌∷◌}
use Prim.Native.Nat.{ℕ, zero, suc, ◌≤◌}
use native.Mathlib.Omega.{arith}
use lib.Dec.{leb, ltb}
use lib.ListN.{get_or-eq_default}
use borrow.Author.Tests.{ltb-false, le-leb, ne_eqb}
use Rattle.below.proofs.Tests.{or_left, or_right}
use Rattle.plan.specs.declared.Plan.{Plan}
use Rattle.plan.specs.Limits.{no_row}
use Rattle.plan.specs.Facts.{Accepted}
use Rattle.state.specs.declared.State.{State}
use Rattle.step.specs.Refusals.{release, lock, unlock, end, tick, order_table, uses_resource, no_such_row, tests, refuses, first_refusal, refusal}
use Rattle.step.specs.Events.{answered}
use Rattle.step.specs.Tick.{ticked}
use Rattle.step.specs.Step.{done, stepped}
use Rattle.step.specs.declared.order.RowKind.{RowKind}
use Rattle.step.specs.declared.order.RowKind.TheVariants.{Release, Lock, Unlock, End}
use Rattle.step.specs.Lent.{row_kind_number, narrow}
use Rattle.step.proofs.Cases.{stepped_tick}
use Rattle.step.proofs.Answering.{stepped_refused}

-- a kind at rows is one of four
pub kind_most : (kind : RowKind) → row_kind_number kind ≤ 3
kind_most Release = omega arith
kind_most Lock = omega arith
kind_most Unlock = omega arith
kind_most End = omega arith

of_four : (C : ℕ → Type 0) → C release → C lock → C unlock → C end → (n : ℕ) → n ≤ 3 → C n
of_four C a b c d zero h = a
of_four C a b c d (suc zero) h = b
of_four C a b c d (suc (suc zero)) h = c
of_four C a b c d (suc (suc (suc zero))) h = d
of_four C a b c d (suc (suc (suc (suc n)))) h = absurd (omega arith)

-- the first of a row applies
first_applies : (f : ℕ → Bool) (n : ℕ) (ns : List ℕ) → f n ≡ true → first_refusal f (n ∷ ns) ≡ n
unfolding first_refusal
first_applies f n ns e = rw (first_refusal, e)

module _ (p : Plan) (s : State) where
  -- 2 comes first in every row
  refused_2 : (k r kind : ℕ) → kind ≤ 3 → no_such_row p kind k r ≡ true → refusal p s kind k r ≡ 2
  unfolding refusal order_table refuses tests
  refused_2 k r =
      of_four (λ kind. no_such_row p kind k r ≡ true → refusal p s kind k r ≡ 2)
      (first_applies (refuses p s release k r) 2 _)
      (first_applies (refuses p s lock k r) 2 _)
      (first_applies (refuses p s unlock k r) 2 _)
      (first_applies (refuses p s end k r) 2 _)

  -- and so nothing else is asked
  first_is_2 : (k r kind : ℕ) → kind ≤ 3 → no_such_row p kind k r ≡ true → stepped p s kind k r ≡ answered p s 2
  first_is_2 k r kind h e = sym (stepped_refused p s kind k r 2 (sym (refused_2 k r kind h e)) (omega arith))

  module _ (A : Accepted p) where
    -- a task row that is not there
    past_task : (kind k r : ℕ) → kind ≤ 3 → no_row ≤ k → stepped p s kind k r ≡ answered p s 2
    unfolding no_such_row
    past_task kind k r h l = first_is_2 k r kind h (or_left _ _ (le-leb p.tasks k (omega (arith, A.tasks_most))))

    -- a resource row that is not there, for the kinds that use one
    past_resource : (kind k r : ℕ) → kind ≤ 3 → uses_resource kind ≡ true → no_row ≤ r → stepped p s kind k r ≡ answered p s 2
    unfolding no_such_row
    past_resource kind k r h u l =
        first_is_2 k r kind h
        (or_right (leb p.tasks k) _ (rw (u, le-leb p.resources r (omega (arith, A.resources_most)))))

    -- for the others it is not read
    resource_alike : (k r : ℕ) → no_row ≤ r → (kind : ℕ) → kind ≤ 3 → stepped p s kind k no_row ≡ stepped p s kind k r
    unfolding stepped done refusal order_table refuses tests no_such_row uses_resource first_refusal
    resource_alike k r l =
        of_four (λ kind. stepped p s kind k no_row ≡ stepped p s kind k r)
        refl
        (past_resource lock k no_row (omega arith) refl (omega arith) ∙ sym (past_resource lock k r (omega arith) refl l))
        (past_resource unlock k no_row (omega arith) refl (omega arith) ∙ sym (past_resource unlock k r (omega arith) refl l))
        refl

    narrow_task : (kind k r : ℕ) → kind ≤ 3 → stepped p s kind (narrow k) r ≡ stepped p s kind k r
    unfolding narrow
    narrow_task kind k r h = go (ltb k no_row) refl
      where
        go : (b : Bool) → ltb k no_row ≡ b → stepped p s kind (elim b [ true ↦ k | false ↦ no_row ]) r ≡ stepped p s kind k r
        go true e = refl
        go false e = past_task kind no_row r h (omega arith) ∙ sym (past_task kind k r h (ltb-false k no_row e))

    narrow_resource : (kind k r : ℕ) → kind ≤ 3 → stepped p s kind k (narrow r) ≡ stepped p s kind k r
    unfolding narrow
    narrow_resource kind k r h = go (ltb r no_row) refl
      where
        go : (b : Bool) → ltb r no_row ≡ b → stepped p s kind k (elim b [ true ↦ r | false ↦ no_row ]) ≡ stepped p s kind k r
        go true e = refl
        go false e = resource_alike k r (ltb-false r no_row e) kind h

    -- both
    narrow_rows : (kind k r : ℕ) → kind ≤ 3 → stepped p s kind (narrow k) (narrow r) ≡ stepped p s kind k r
    narrow_rows kind k r h = narrow_resource kind (narrow k) r h ∙ narrow_task kind k r h

    -- as the code has them
    pub narrowed : (kind k r a b : ℕ) → kind ≤ 3 → a ≡ narrow k → b ≡ narrow r → stepped p s kind a b ≡ stepped p s kind k r
    narrowed kind k r a b h e f = rw (e, f) (narrow_rows kind k r h)

  -- a tick
  pub tick_kind : (kind k r : ℕ) → kind ≡ tick → ticked p s ≡ stepped p s kind k r
  tick_kind kind k r e = rw e (sym (stepped_tick p s k r))

  -- a kind of no event
  pub unknown_kind : (kind k r : ℕ) → 5 ≤ kind → answered p s 11 ≡ stepped p s kind k r
  unfolding stepped refusal first_refusal done order_table
  unknown_kind kind k r h =
      rw (
        stepped,
        refusal,
        get_or-eq_default order_table [] {n = kind} (omega arith),
        done,
        ne_eqb kind release (omega arith),
        ne_eqb kind lock (omega arith),
        ne_eqb kind unlock (omega arith),
        ne_eqb kind end (omega arith),
        ne_eqb kind tick (omega arith),
      )
