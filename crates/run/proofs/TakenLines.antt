-- Laws of lines that are put: with room and without, a line that is answered, and one that is passed over.
use Rattle.std.proofs.Common.{◌≡◌, ℕ, ◌+◌, ◌≤◌, Bool, true, false, List, [], ◌∷◌, length, drop, refl, sym, ap, ◌∙◌, arith, take-append-drop, add-zero, le-leb}
use Rattle.std.specs.Prelude.{Option, Some, None}
use Rattle.plan.specs.declared.Plan.{Plan}
use Rattle.state.specs.declared.State.{State}
use Rattle.line.specs.Printed.{printed}
use Rattle.line.specs.Filled.{has_room, fill_after, out_after}
use Rattle.line.specs.Run.{line_gives}
use Rattle.run.specs.declared.Lined.{Lined}
use Rattle.run.specs.Lined.{LinePut, lined_by, lined_state_by, lined, lined_state, lined_out}
use Rattle.run.specs.Stream.{At, is_going, line_done, line_printed, end_printed}
use Rattle.run.specs.Fed.{Put, whole_line}
use Rattle.run.proofs.AsFarLaws.{has_room_lem, has_none}
use Rattle.run.proofs.Going.{done_going, printed_going, done_over, printed_over}

-- nothing to print always has room, and changes nothing
module _ (out : List ℕ) (fill : ℕ) where
  pub room_quiet : has_room out fill [] ≡ true
  unfolding has_room
  room_quiet = le-leb 0 (length (drop fill out)) (omega arith)

  pub out_quiet : out_after out fill [] ≡ out
  unfolding out_after
  out_quiet = rw (out_after, room_quiet, add-zero) (take-append-drop fill out)

  pub fill_quiet : fill_after out fill [] ≡ Some fill
  unfolding fill_after
  fill_quiet = rw (fill_after, room_quiet, add-zero)

-- a text without room changes nothing
pub out_full : (out : List ℕ) (fill : ℕ) (t : List ℕ) → has_room out fill t ≡ false → out_after out fill t ≡ out
unfolding out_after
out_full out fill t e = rw (out_after, e)

-- the fill, by the room
module _ (out : List ℕ) (fill : ℕ) (t : List ℕ) where
  pub fill_room : has_room out fill t ≡ true → fill_after out fill t ≡ Some (fill + length t)
  unfolding fill_after
  fill_room e = rw (fill_after, e)

  pub fill_none : has_room out fill t ≡ false → ◌≡◌ {A = Option ℕ} (fill_after out fill t) None
  unfolding fill_after
  fill_none e = rw (fill_after, e)

-- by the room
module _ (x y : At) (t out : List ℕ) (fill : ℕ) where
  pub put_room : has_room out fill t ≡ true → Put x y t out fill (Some (fill + length t)) y (out_after out fill t)
  put_room e = record { filled = sym (fill_room out fill t e); stands = rw e; written = refl }

  pub put_none : has_room out fill t ≡ false → Put x y t out fill None x out
  put_none e = record { filled = sym (fill_none out fill t e); stands = rw e; written = sym (out_full out fill t e) }

  -- a text was put: it had room, and where that leads
  pub was_put : {n : ℕ} {z : At} {after : List ℕ} → Put x y t out fill (Some n) z after
      → (has_room out fill t ≡ true) × (n ≡ fill + length t) × (z ≡ y) × (after ≡ out_after out fill t)
  was_put w = let h = has_room_lem out fill t w.filled in (h.0, h.1, rw h.0 at w.stands, w.written)

  -- it was not, and nothing changed
  pub was_full : {z : At} {after : List ℕ} → Put x y t out fill None z after → (has_room out fill t ≡ false) × (z ≡ x) × (after ≡ out)
  was_full w = let h = has_none out fill t w.filled in (h, rw h at w.stands, w.written ∙ out_full out fill t h)

-- the same from and to equal ones
pub put_as : {x y v : At} {t u out : List ℕ} {fill : ℕ} {r : Option ℕ} {z : At} {after : List ℕ} → y ≡ v → t ≡ u → Put x y t out fill r z after → Put x v u out fill r z after
put_as e f w = rw (← e, ← f) w

-- nothing is printed
pub put_quiet : (x y : At) (out : List ℕ) (fill : ℕ) → Put x y [] out fill (Some fill) y out
put_quiet x y out fill = record { filled = sym (fill_quiet out fill); stands = rw (room_quiet out fill); written = sym (out_quiet out fill) }

-- what a line step gives back
module _ (p : Plan) (s : State) (n : ℕ) (line out : List ℕ) (fill : ℕ) where
  unfoldable pub text : List ℕ
  text = printed n (line_gives p s line)

  -- it had room
  pub step_room : {l : Lined} {next : State} {after : List ℕ} → Some l ≡ lined p s n line out fill → next ≡ lined_state p s n line out fill → after ≡ lined_out p s n line out fill
      → (has_room out fill text ≡ true) × LinePut p s n line out fill next l.fill after
  unfolding lined lined_by lined_state lined_state_by lined_out text
  step_room {l} {next} {after} e f g = go (has_room out fill (printed n (line_gives p s line))) refl e f
    where
      go : (b : Bool) → has_room out fill (printed n (line_gives p s line)) ≡ b
          → ◌≡◌ {A = Option Lined} (Some l) (elim b [ true ↦ Some (record { answer = (line_gives p s line).answer; fill = fill + length (printed n (line_gives p s line)) }) | false ↦ None ])
          → next ≡ elim b [ true ↦ (line_gives p s line).state | false ↦ s ]
          → (has_room out fill (printed n (line_gives p s line)) ≡ true) × LinePut p s n line out fill next l.fill after
      go true t q u =
          let k : l ≡ record { answer = (line_gives p s line).answer; fill = fill + length (printed n (line_gives p s line)) } = cc in
          (t, record { state = u; filled = ap (λ (y : Lined). y.fill) k; written = g })
      go false t q u = absurd (cc)

  -- it had none
  pub step_none : {next : State} {after : List ℕ} → ◌≡◌ {A = Option Lined} None (lined p s n line out fill) → next ≡ lined_state p s n line out fill → after ≡ lined_out p s n line out fill
      → (has_room out fill text ≡ false) × (next ≡ s) × (after ≡ out)
  unfolding lined lined_by lined_state lined_state_by lined_out text
  step_none {next} {after} e f g = go (has_room out fill (printed n (line_gives p s line))) refl e f
    where
      go : (b : Bool) → has_room out fill (printed n (line_gives p s line)) ≡ b
          → ◌≡◌ {A = Option Lined} None (elim b [ true ↦ Some (record { answer = (line_gives p s line).answer; fill = fill + length (printed n (line_gives p s line)) }) | false ↦ None ])
          → next ≡ elim b [ true ↦ (line_gives p s line).state | false ↦ s ]
          → (has_room out fill (printed n (line_gives p s line)) ≡ false) × (next ≡ s) × (after ≡ out)
      go true t q u = absurd (cc)
      go false t q u = (t, u, g ∙ out_full out fill (printed n (line_gives p s line)) t)

-- a whole line: what comes of it
module _ (p : Plan) (x : At) (line out : List ℕ) (fill : ℕ) where
  abbrev pub Answered : Option ℕ → At → List ℕ → Type 0
  Answered = Put x (line_done p (whole_line x line)) (line_printed p (whole_line x line)) out fill

  -- past the last line that is answered
  pub answer_over : is_going x ≡ false → Answered (Some fill) (record { state = x.state; number = x.number; kept = [] }) out
  unfolding is_going whole_line
  answer_over e = rw (printed_over p (whole_line x line) e, done_over p (whole_line x line) e) (put_quiet x _ out fill)

  -- it is answered
  pub answer_room : {next : State} {end : ℕ} {after : List ℕ} → is_going x ≡ true → has_room out fill (text p x.state x.number line out fill) ≡ true
      → LinePut p x.state x.number line out fill next end after → Answered (Some end) (record { state = next; number = x.number + 1; kept = [] }) after
  unfolding is_going whole_line text
  answer_room g h w =
      rw (printed_going p (whole_line x line) g, done_going p (whole_line x line) g, w.state, w.filled, w.written) (put_room x _ (text p x.state x.number line out fill) out fill h)

  -- it has no room
  pub answer_none : {z : At} {after : List ℕ} → is_going x ≡ true → has_room out fill (text p x.state x.number line out fill) ≡ false
      → z ≡ x → after ≡ out → Answered None z after
  unfolding is_going whole_line text
  answer_none g h e f =
      rw (printed_going p (whole_line x line) g, e, f) (put_none x _ (text p x.state x.number line out fill) out fill h)

-- the end of the file: nothing is kept, or no more lines are answered, or the kept bytes are the last line
module _ (p : Plan) (x : At) where
  pub end_empty : x.kept ≡ [] → end_printed p x ≡ []
  unfolding end_printed
  end_empty e = rw (end_printed, e)

  pub end_over : is_going x ≡ false → end_printed p x ≡ []
  unfolding end_printed
  end_over e = go x.kept
    where
      go : (k : List ℕ) → ◌≡◌ {A = List ℕ} (elim k [ [] ↦ [] | b ∷ bs ↦ line_printed p x ]) []
      go [] = refl
      go (b ∷ bs) = printed_over p x e

  pub end_some : 1 ≤ length x.kept → end_printed p x ≡ line_printed p x
  unfolding end_printed
  end_some h = go x.kept h
    where
      go : (k : List ℕ) → 1 ≤ length k → elim k [ [] ↦ [] | b ∷ bs ↦ line_printed p x ] ≡ line_printed p x
      go [] l = absurd (omega arith)
      go (b ∷ bs) l = refl
