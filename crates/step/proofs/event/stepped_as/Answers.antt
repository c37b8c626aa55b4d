-- Rows as bytes are as good as those handed over.
use Rattle.std.proofs.Common.{sym, ap, ◌≡◌, ◌∙◌, ◌≤◌}
use Rattle.step.specs.Lent.{row_kind_number}
use Rattle.step.specs.Kinds.{kind_number}
use Rattle.step.proofs.Answering.{answers_as}
use Rattle.step.proofs.Narrowing.{kind_most, narrowed, tick_kind}
use Rattle.step.proofs.event.stepped_as.Goals as goal
use Rattle.step.proofs.event.stepped_as.Goals.{in-Release, in-Lock, in-Unlock, in-End}

pub returns-in-Tick : goal.returns-in-Tick
returns-in-Tick c = λ l.
    answers_as _ _ _ _ (tick_kind _ _ _ _ _ (ap kind_number c.in-Tick.is)) (c.tick.ensures l c.sized.ensures)

pub returns : goal.returns
returns c = λ l.
    let e : row_kind_number c.match-kind.kind ≡ kind_number c.args.kind =
    elim c.match-kind.branch [
      | in-Release w ↦ ap row_kind_number w.kind-is ∙ sym (ap kind_number w.in-Release.is)
      | in-Lock w ↦ ap row_kind_number w.kind-is ∙ sym (ap kind_number w.in-Lock.is)
      | in-Unlock w ↦ ap row_kind_number w.kind-is ∙ sym (ap kind_number w.in-Unlock.is)
      | in-End w ↦ ap row_kind_number w.kind-is ∙ sym (ap kind_number w.in-End.is)
    ] in
    let m : kind_number c.args.kind ≤ 3 = rw (← e) (kind_most c.match-kind.kind) in
    answers_as _ _ _ _ (rw e (narrowed _ _ l.accepted _ _ _ _ _ m c.narrow.ensures c.narrow-2.ensures)) (c.at_rows.ensures l c.sized.ensures)
