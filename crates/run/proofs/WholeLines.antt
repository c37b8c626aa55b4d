-- Laws of one line as it is fed: its end with the line feed, a piece that ends within it, and the first line of a piece.
use Rattle.std.proofs.Common.{◌≡◌, refl, sym, ap, ◌∙◌, true, false, List, [], ◌∷◌, ◌++◌, append-nil, append_assoc, ℕ, suc, ◌+◌, ◌≤◌, arith, leb, length, take}
use Rattle.text.specs.Lines.{line_feed, until}
use Rattle.text.proofs.Parted.{Parted, Whole, parted}
use Rattle.plan.specs.declared.Plan.{Plan}
use Rattle.line.specs.Printed.{printed}
use Rattle.line.specs.Run.{most_lines}
use Rattle.run.specs.Stream.{At, most_kept, keeping, is_going, line_done, line_printed, fed_byte, byte_printed, fed, fed_printed}
use Rattle.run.specs.Fed.{whole_line}
use Rattle.run.proofs.Keeping.{take_again}
use Rattle.run.proofs.Going.{byte_on, byte_quiet}
use Rattle.run.proofs.Pieces.{gives_kept}

-- bytes kept one after the other
keeping_again : (x : At) (a b : List ℕ) → keeping (keeping x a) b ≡ keeping x (a ++ b)
unfolding keeping
keeping_again x a b =
    ap (λ (k : List ℕ). record { state = x.state; number = x.number; kept = k })
    (take_again most_kept (x.kept ++ a) b ∙ rw (append_assoc x.kept a b))

module _ (p : Plan) where
  -- the end of a line
  fed_ended : (x : At) {l : List ℕ} → Whole line_feed l → fed p x (l ++ (line_feed ∷ [])) ≡ line_done p (keeping x (l ++ (line_feed ∷ [])))
  unfolding fed fed_byte
  fed_ended x Whole.end = refl
  fed_ended x (Whole.on {x = b} {xs = l} e w) =
      ap (λ (y : At). fed p y (l ++ (line_feed ∷ []))) (byte_on p x b e)
      ∙ fed_ended (keeping x (b ∷ [])) w
      ∙ ap (line_done p) (keeping_again x (b ∷ []) (l ++ (line_feed ∷ [])))

  printed_ended : (x : At) {l : List ℕ} → Whole line_feed l → fed_printed p x (l ++ (line_feed ∷ [])) ≡ line_printed p (keeping x (l ++ (line_feed ∷ [])))
  unfolding fed_printed fed_byte byte_printed
  printed_ended x Whole.end = append-nil (line_printed p (keeping x (line_feed ∷ [])))
  printed_ended x (Whole.on {x = b} {xs = l} e w) =
      rw (byte_quiet p x b e, byte_on p x b e)
      (printed_ended (keeping x (b ∷ [])) w ∙ ap (line_printed p) (keeping_again x (b ∷ []) (l ++ (line_feed ∷ []))))

  -- bytes within a line
  fed_inside : (x : At) (b : ℕ) (l : List ℕ) → Whole line_feed (b ∷ l) → fed p x (b ∷ l) ≡ keeping x (b ∷ l)
  unfolding fed
  fed_inside x b [] (Whole.on e w) = byte_on p x b e
  fed_inside x b (a ∷ l) (Whole.on e w) = rw (byte_on p x b e) (fed_inside (keeping x (b ∷ [])) a l w ∙ keeping_again x (b ∷ []) (a ∷ l))

  pub printed_inside : (x : At) {l : List ℕ} → Whole line_feed l → fed_printed p x l ≡ []
  unfolding fed_printed
  printed_inside x Whole.end = refl
  printed_inside x (Whole.on {x = b} e w) = rw (byte_quiet p x b e) (printed_inside (fed_byte p x b) w)

-- bytes that end with their only line feed
record Ended (l : List ℕ) : Type 0 where
  front : List ℕ
  before : Whole line_feed front
  is : l ≡ front ++ (line_feed ∷ [])

ended_of : {l : List ℕ} {m : ℕ} → Parted line_feed l m → suc m ≡ length l → Ended l
ended_of (Parted.here {xs = []}) h = record { front = []; before = Whole.end; is = refl }
ended_of (Parted.here {xs = x ∷ xs}) h = absurd (omega arith)
ended_of (Parted.on {x = x} e p) h = more (ended_of p (omega arith))
  where
    more : {xs : List ℕ} → Ended xs → Ended (x ∷ xs)
    more r = record { front = x ∷ r.front; before = Whole.on e r.before; is = ap (λ (t : List ℕ). x ∷ t) r.is }

ended : (l : List ℕ) → until line_feed l + 1 ≡ length l → Ended l
ended l h = ended_of (parted line_feed l (omega arith)) (omega arith)

pub printed_feed : (p : Plan) (x : At) (l : List ℕ) → until line_feed l + 1 ≡ length l → fed_printed p x l ≡ line_printed p (keeping x l)
printed_feed p x l h = go (ended l h)
  where
    go : Ended l → fed_printed p x l ≡ line_printed p (keeping x l)
    go r = rw r.is (printed_ended p x r.before)

-- a line that lies whole is read where it lies
module _ (p : Plan) (x : At) {l : List ℕ} (w : Whole line_feed l) (none : x.kept ≡ []) where
  done_there : line_done p (whole_line x (l ++ (line_feed ∷ []))) ≡ line_done p (keeping x (l ++ (line_feed ∷ [])))
  unfolding line_done is_going whole_line keeping
  done_there =
      rw none
      (ap
      (λ o.
      elim (leb x.number most_lines) [
        | true ↦ record { state = o.state; number = x.number + 1; kept = [] }
        | false ↦ record { state = x.state; number = x.number; kept = [] }
      ])
      (sym (gives_kept p x.state w)))

  printed_there : line_printed p (whole_line x (l ++ (line_feed ∷ []))) ≡ line_printed p (keeping x (l ++ (line_feed ∷ [])))
  unfolding line_printed is_going whole_line keeping
  printed_there =
      rw none
      (ap (λ o. elim (leb x.number most_lines) [ true ↦ printed x.number o | false ↦ [] ]) (sym (gives_kept p x.state w)))

-- the end of a line, by the line that is answered
module _ (p : Plan) (x : At) (part : List ℕ) (h : until line_feed part + 1 ≡ length part) where
  abbrev pub Comes : List ℕ → Type 0
  Comes line = (line_done p (whole_line x line) ≡ fed p x part) × (line_printed p (whole_line x line) ≡ fed_printed p x part)

  -- it is read where it lies
  pub end_there : x.kept ≡ [] → Comes part
  end_there none = go (ended part h)
    where
      go : Ended part → Comes part
      go r =
          rw r.is (
            done_there p x r.before none ∙ sym (fed_ended p x r.before),
            printed_there p x r.before none ∙ sym (printed_ended p x r.before),
          )

  -- it is read through the kept bytes
  pub end_kept : (line : List ℕ) → line ≡ take most_kept (x.kept ++ part) → Comes line
  unfolding whole_line keeping
  end_kept line e = rw e (go (ended part h))
    where
      go : Ended part → Comes (take most_kept (x.kept ++ part))
      go r = rw r.is (sym (fed_ended p x r.before), sym (printed_ended p x r.before))

-- a piece that ends within a line
pub inside_fed : (p : Plan) (x : At) (l : List ℕ) → 1 ≤ length l → Whole line_feed l → (fed p x l ≡ keeping x l) × (fed_printed p x l ≡ [])
inside_fed p x [] h w = absurd (omega arith)
inside_fed p x (b ∷ l) h w = (fed_inside p x b l w, printed_inside p x w)
