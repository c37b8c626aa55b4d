-- Length, byte 3 and the plan are tested in this order, and no further test is needed: the other bytes are written as they were read.
use Rattle.std.proofs.Common.{◌≡◌, ℕ, ◌<◌, true, false, get_or, sym, ap, ◌∙◌, arith, eq-eqb, ne_eqb}
use mathlib.Core.Bool.{and-false}
use Rattle.plan.specs.Accepted.{accepted}
use Rattle.image.specs.Words.{byte_at}
use Rattle.image.specs.Block.{plan_of}
use Rattle.image.proofs.BlockLaws.{is_block_lem, read_short, read_refused, read_accepted}
use Rattle.image.proofs.blocks.read_block.Goals as goal

pub returns-then-b-ne1108 : goal.returns-then-b-ne1108
returns-then-b-ne1108 c = read_short c.args.b.now (λ h. c.if-b-ne1108.true (omega arith))

pub returns-then-b-ne0 : goal.returns-then-b-ne0
unfolding byte_at
returns-then-b-ne0 c =
    let b = c.args.b.now in
    let long = c.if-b-ne1108.false in
    let small : (k : ℕ) → get_or b k 0 < 256 = λ k. omega (arith, c.type_inv.b k) in
    read_refused b long (is_block_lem b long small ∙ rw (ne_eqb _ _ c.if-b-ne0.true) (and-false (accepted (plan_of b))))

pub returns-then-not-is_accepted : goal.returns-then-not-is_accepted
unfolding byte_at
returns-then-not-is_accepted c =
    let b = c.args.b.now in
    let long = c.if-b-ne1108.false in
    let small : (k : ℕ) → get_or b k 0 < 256 = λ k. omega (arith, c.type_inv.b k) in
    let no : accepted (plan_of b) ≡ false
    = ap accepted (sym c.read_plan-plan.ensures) ∙ sym c.is_accepted.ensures ∙ c.if-not-is_accepted.true in
    read_refused b long (is_block_lem b long small ∙ rw no)

pub returns : goal.returns
unfolding byte_at
returns c =
    let b = c.args.b.now in
    let long = c.if-b-ne1108.false in
    let small : (k : ℕ) → get_or b k 0 < 256 = λ k. omega (arith, c.type_inv.b k) in
    let yes : accepted (plan_of b) ≡ true
    = ap accepted (sym c.read_plan-plan.ensures) ∙ sym c.is_accepted.ensures ∙ c.if-not-is_accepted.false in
    rw c.read_plan-plan.ensures (read_accepted b long (is_block_lem b long small ∙ rw (yes, eq-eqb _ _ c.if-b-ne0.false)))
