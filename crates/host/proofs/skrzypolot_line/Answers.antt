-- 34, 31, 32, 33, or the line on what was opened.
use Rattle.std.proofs.Common.{sym, ◌∙◌}
use Rattle.step.proofs.Stepping.{step_lent}
use Rattle.host.proofs.OpenLaws.{refusal_some, refused_number, opens}
use Rattle.host.proofs.LineLaws.{line_refused, line_none, line_done}
use Rattle.host.proofs.skrzypolot_line.Goals as goal

pub returns-in-Err : goal.returns-in-Err
returns-in-Err c = line_refused _ _ _ _ _ _ _ (c.number.ensures ∙ refused_number _ _ c.open.ensures c.in-Err.is) (λ z. refusal_some c.in-Err.refused (sym c.number.ensures ∙ z))

pub returns-in_default : goal.returns-in_default
returns-in_default c =
    let x = opens _ _ c.open.ensures c.in-Ok.is in
    let l = c.line_step.ensures.lined (rw (x.plan, x.state) (step_lent _ _ x.is_accepted x.is_legal)) in
    line_none _ _ _ _ _ _ x l c.in_default.is

pub returns : goal.returns
returns c =
    let x = opens _ _ c.open.ensures c.in-Ok.is in
    let l = c.line_step.ensures.lined (rw (x.plan, x.state) (step_lent _ _ x.is_accepted x.is_legal)) in
    rw c.write_image.ensures.1 (line_done _ _ _ _ _ _ x l _ c.in-Some.is)
