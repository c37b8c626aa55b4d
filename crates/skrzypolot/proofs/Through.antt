-- A piece that goes through the buffer: what one turn of its loop does to a run.
use Rattle.std.proofs.Common.{◌≡◌, refl, sym, ap, subst, ◌∙◌, List, [], ◌++◌, append_assoc, append-nil, ℕ, ◌+◌, ◌≤◌, add-zero, length, take, drop, take_all, take-add, take_at}
use Rattle.plan.specs.declared.Plan.{Plan}
use Rattle.plan.specs.declared.CeiledPlan.{CeiledPlan}
use Rattle.run.specs.Standing.{Stands}
use Rattle.run.specs.declared.stream.Stream.{Stream}
use Rattle.run.specs.declared.stream.Fed.{Fed}
use Rattle.run.specs.Stream.{At, fed, fed_printed}
use Rattle.run.specs.Fed.{at_of, taken_of, piece_taken}
use Rattle.run.proofs.Going.{fed_append, printed_append}
use Rattle.run.proofs.FirstLines.{fed_stands}
use Rattle.skrzypolot.specs.Went.{Went}
use Rattle.skrzypolot.proofs.Wrote.{Part, piece_part}

-- before the first turn
pub went_start : (p : Plan) (x : At) (held : List ℕ) → Went p x held [] x held
unfolding fed fed_printed
went_start p x held = record { stands = refl; written = []; printed = sym (append-nil held) }

-- the buffer is written out
pub went_written : (p : Plan) (x : At) (held t : List ℕ) (y : At) (left : List ℕ) → Went p x held t y left → Went p x held t y []
went_written p x held t y left w = record { stands = w.stands; written = w.written ++ left; printed = append-nil (w.written ++ left) ∙ w.printed }

-- a run goes on by what was taken
module _ (c : CeiledPlan) (piece : List ℕ) (at : ℕ) (y : At) (out : List ℕ) (filled : ℕ) (s : Stream) (f : Fed) (new : List ℕ)
    (e : taken_of s f new ≡ piece_taken c.plan y (drop at piece) out filled) (h : filled ≤ length out) where
  abbrev p : Plan
  p = c.plan

  turn : Part p y (drop at piece) out filled (taken_of s f new)
  turn = subst (Part p y (drop at piece) out filled) (sym e) (piece_part p y (drop at piece) out filled h)

  pub turn_stays : Stands c y.state → Stands c s.state
  unfolding taken_of at_of
  turn_stays S = subst (λ (z : At). Stands c z.state) (sym turn.wrote.stands) (fed_stands c y turn.part S)

  front_is : take (at + f.taken) piece ≡ take at piece ++ turn.part
  unfolding taken_of
  front_is = take-add at f.taken piece ∙ ap (λ (u : List ℕ). take at piece ++ u) (ap (take f.taken) turn.parts ∙ take_at turn.part turn.left f.taken (sym turn.many))

  pub went_on : (x : At) (held : List ℕ) → Went p x held (take at piece) y (take filled out) → Went p x held (take (at + f.taken) piece) (at_of s) (take f.fill new)
  unfolding taken_of
  went_on x held w =
      subst (λ (t : List ℕ). Went p x held t (at_of s) (take f.fill new)) (sym front_is) (record {
        stands = turn.wrote.stands ∙ ap (λ (z : At). fed p z turn.part) w.stands ∙ sym (fed_append p x (take at piece) turn.part);
        written = w.written;
        printed =
            ap (λ (u : List ℕ). w.written ++ u) turn.wrote.front
            ∙ sym (append_assoc w.written (take filled out) (fed_printed p y turn.part))
            ∙ ap (λ (u : List ℕ). u ++ fed_printed p y turn.part) w.printed
            ∙ append_assoc held (fed_printed p x (take at piece)) (fed_printed p y turn.part)
            ∙ ap (λ (z : At). held ++ (fed_printed p x (take at piece) ++ fed_printed p z turn.part)) w.stands
            ∙ ap (λ (u : List ℕ). held ++ u) (sym (printed_append p x (take at piece) turn.part));
      })

  -- where nothing was taken, the buffer is written out
  pub went_none : (x : At) (held : List ℕ) → f.taken ≡ 0 → Went p x held (take at piece) y (take filled out) → Went p x held (take at piece) (at_of s) []
  went_none x held z w =
      went_written p x held (take at piece) (at_of s) (take f.fill new)
      (subst (λ (n : ℕ). Went p x held (take n piece) (at_of s) (take f.fill new)) (ap (λ (n : ℕ). at + n) z ∙ add-zero at) (went_on x held w))

-- behind the last turn
pub went_all : (p : Plan) (x : At) (held piece : List ℕ) (at : ℕ) (y : At) (left : List ℕ) → length piece ≤ at → Went p x held (take at piece) y left → Went p x held piece y left
went_all p x held piece at y left h w = subst (λ (t : List ℕ). Went p x held t y left) (take_all at piece h) w
