-- Laws of lines written one behind the other: the first line has room or it has not.
use Rattle.std.proofs.Common.{◌≡◌, refl, sym, ap, ◌∙◌, Bool, true, false, List, [], ◌∷◌, ℕ, ◌+◌, length}
use Rattle.std.specs.Prelude.{Option, Some, None, Result, Ok, Err, IsErrAnd, ok_or}
use Rattle.line.specs.Filled.{has_room, fill_after, out_after}
use Rattle.run.specs.declared.Full.{Full}
use Rattle.run.specs.AsFar.{as_far, as_far_out}

module _ (out : List ℕ) (fill : ℕ) (l : List ℕ) where
  -- what the new fill says of the room
  pub has_room_lem : {n : ℕ} → Some n ≡ fill_after out fill l → (has_room out fill l ≡ true) × (n ≡ fill + length l)
  unfolding fill_after
  has_room_lem {n} e = go (has_room out fill l) e
    where
      go : (b : Bool) → ◌≡◌ {A = Option ℕ} (Some n) (elim b [ true ↦ Some (fill + length l) | false ↦ None ]) → (b ≡ true) × (n ≡ fill + length l)
      go true q = (refl, cc)
      go false q = absurd (cc)

  pub has_none : ◌≡◌ {A = Option ℕ} None (fill_after out fill l) → has_room out fill l ≡ false
  unfolding fill_after
  has_none e = go (has_room out fill l) e
    where
      go : (b : Bool) → ◌≡◌ {A = Option ℕ} None (elim b [ true ↦ Some (fill + length l) | false ↦ None ]) → b ≡ false
      go true q = absurd (cc)
      go false q = refl

-- by the test for room
module _ (out : List ℕ) (fill : ℕ) (l : List ℕ) (ls : List (List ℕ)) where
  pub far_room : has_room out fill l ≡ true → as_far (l ∷ ls) out fill ≡ as_far ls (out_after out fill l) (fill + length l)
  unfolding as_far
  far_room t = rw (as_far, t)

  pub far_none : has_room out fill l ≡ false → as_far (l ∷ ls) out fill ≡ Err (record { fill = fill })
  unfolding as_far
  far_none t = rw (as_far, t)

  pub out_room : has_room out fill l ≡ true → as_far_out (l ∷ ls) out fill ≡ as_far_out ls (out_after out fill l) (fill + length l)
  unfolding as_far_out
  out_room t = rw (as_far_out, t)

  pub out_none : has_room out fill l ≡ false → as_far_out (l ∷ ls) out fill ≡ out
  unfolding as_far_out
  out_none t = rw (as_far_out, t)

-- a line that has no room is not written
pub kept_none : (out : List ℕ) (fill : ℕ) (l : List ℕ) → has_room out fill l ≡ false → out_after out fill l ≡ out
unfolding out_after
kept_none out fill l t = rw (out_after, t)

-- the lines that are left, from the buffer and the fill reached so far, give what all lines give from the start
pub record Leads (ls : List (List ℕ)) (out : List ℕ) (at : ℕ) (all : List (List ℕ)) (out₀ : List ℕ) (fill : ℕ) : Type 0 where
  pub far : as_far ls out at ≡ as_far all out₀ fill
  pub held : as_far_out ls out at ≡ as_far_out all out₀ fill

-- what is answered and what the buffer holds are those of all lines
abbrev pub Ends : Result ℕ Full → List ℕ → List (List ℕ) → List ℕ → ℕ → Type 0
Ends r out all out₀ fill = (r ≡ as_far all out₀ fill) × (out ≡ as_far_out all out₀ fill)

module _ {l : List ℕ} {ls : List (List ℕ)} {out : List ℕ} {at : ℕ} {all : List (List ℕ)} {out₀ : List ℕ} {fill : ℕ}
    (w : Leads (l ∷ ls) out at all out₀ fill) where
  -- one turn: a line with room
  pub leads_on : {n : ℕ} {new : List ℕ} → Some n ≡ fill_after out at l → new ≡ out_after out at l → Leads ls new n all out₀ fill
  leads_on {n} {new} e h =
      let r = has_room_lem out at l e in
      rw (h, r.1) (record { far = sym (far_room out at l ls r.0) ∙ w.far; held = sym (out_room out at l ls r.0) ∙ w.held })

  -- a line without room
  pub leads_out : {new : List ℕ} → ◌≡◌ {A = Option ℕ} None (fill_after out at l) → new ≡ out_after out at l
      → Ends (Err (record { fill = at })) new all out₀ fill
  leads_out e h =
      let t = has_none out at l e in
      (sym (far_none out at l ls t) ∙ w.far, h ∙ kept_none out at l t ∙ sym (out_none out at l ls t) ∙ w.held)

-- no line is left
pub leads_end : {out : List ℕ} {at : ℕ} {all : List (List ℕ)} {out₀ : List ℕ} {fill : ℕ}
    → Leads [] out at all out₀ fill → Ends (Ok at) out all out₀ fill
unfolding as_far as_far_out
leads_end w = (w.far, w.held)

-- one line is left
pub leads_one : {l : List ℕ} {out : List ℕ} {at : ℕ} {all : List (List ℕ)} {out₀ : List ℕ} {fill : ℕ} {new : List ℕ} (r : Option ℕ)
    → Leads (l ∷ []) out at all out₀ fill → r ≡ fill_after out at l → new ≡ out_after out at l → Ends (ok_or r (record { fill = at })) new all out₀ fill
leads_one (Some n) w e h = leads_end (leads_on w e h)
leads_one None w e h = leads_out w e h

-- before the first line
pub leads_start : (all : List (List ℕ)) (out : List ℕ) (fill : ℕ) → Leads all out fill all out fill
leads_start all out fill = record { far = refl; held = refl }

-- what `ok_or` was given, by what it gave
pub ok_or_some : {A : Type 0} (o : Option A) (e : Full) {x : A} → ok_or o e ≡ Ok x → o ≡ Some x
ok_or_some None e q = absurd (cc)
ok_or_some (Some y) e q = cc

pub ok_or_none : {A : Type 0} (o : Option A) (e : Full) {f : Full} → ok_or o e ≡ Err f → (o ≡ None) × (f ≡ e)
ok_or_none None e q = (refl, cc)
ok_or_none (Some y) e q = absurd (cc)

-- an error that a function passes on
pub passed_on : {r : Result ℕ Full} {f g : Full} → IsErrAnd r (λ e. e ≡ f) → f ≡ g → r ≡ Err g
passed_on {r = Ok x} w e = absurd w
passed_on {r = Err x} w e = ap Err (w ∙ e)
