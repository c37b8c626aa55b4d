-- 34, 31, 32, or the event on what was opened.
use Rattle.std.proofs.Common.{sym, ◌∙◌}
use Rattle.step.proofs.Stepping.{step_lent}
use Rattle.host.proofs.OpenLaws.{refusal_some, refused_number, opens}
use Rattle.host.proofs.StepLaws.{step_refused, step_done}
use Rattle.host.proofs.skrzypolot_step.Goals as goal

pub returns-in-Err : goal.returns-in-Err
returns-in-Err c = step_refused _ _ _ _ _ _ _ _ _ (c.number.ensures ∙ refused_number _ _ c.open.ensures c.in-Err.is) (λ z. refusal_some c.in-Err.refused (sym c.number.ensures ∙ z))

pub returns : goal.returns
returns c =
    let x = opens _ _ c.open.ensures c.in-Ok.is in
    let a = c.stepped-a.ensures (rw (x.plan, x.state) (step_lent _ _ x.is_accepted x.is_legal)) in
    rw c.write_image.ensures.1 (step_done _ _ _ _ _ _ _ _ x _ _ a.0 a.1)
