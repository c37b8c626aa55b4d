use Rattle.std.proofs.Common.{sym, ◌∙◌, arith}
use Rattle.choice.proofs.Columns.{ceiling_in, ceiling_out}
use Rattle.choice.proofs.Found.{found_none, found_taken, found_kept}
use Rattle.choice.proofs.subsystem.system_section.Goals as goal
use Rattle.choice.proofs.subsystem.system_section.Goals.{then-in_section+then-l-ceiling, then-in_section+else-l-ceiling, else-in_section}

pub loop-k-init : goal.loop-k-init
loop-k-init c = (omega arith, found_none _ _)

pub loop-k-preserved : goal.loop-k-preserved
loop-k-preserved c =
    let i = c.loop-k.invariant.1 in
    let e = c.in_section.ensures in
    elim c.if-in_section.branch [
      | then-in_section+then-l-ceiling w ↦
          let l = w.last_ceiling-l.ensures ∙ sym (ceiling_in _ _ _ (sym e ∙ w.if-in_section.true)) in
          (omega arith, rw (w.ceiling-is ∙ l, w.holder-is) (found_taken _ _ _ _ _ i (omega arith)))
      | then-in_section+else-l-ceiling w ↦
          let l = w.last_ceiling-l.ensures ∙ sym (ceiling_in _ _ _ (sym e ∙ w.if-in_section.true)) in
          (omega arith, rw (w.ceiling-is, w.holder-is) (found_kept _ _ _ _ _ i (omega arith)))
      | else-in_section w ↦
          let n = ceiling_out c.args.c.now c.args.s.now c.loop-k.k (sym e ∙ w.if-in_section.false) in
          (omega arith, rw (w.ceiling-is, w.holder-is) (found_kept _ _ _ _ _ i (omega arith)))
    ]
