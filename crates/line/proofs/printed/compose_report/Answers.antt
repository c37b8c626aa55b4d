-- `line::printed::compose_report` meets its contract: the fields, the last first.
use Rattle.std.proofs.Common.{◌∙◌, to_z-of_z}
use Rattle.line.specs.Reported.{report_text}
use Rattle.line.proofs.Spaced.{field_more, field_last}
use Rattle.line.proofs.printed.compose_report.Goals as goal

pub returns : goal.returns
unfolding report_text
returns c =
    let last = rw (to_z-of_z c.ranges.margin) at c.signed.ensures.text in
    let demand = field_more _ _ _ (field_last _ (c.byte.ensures ∙ rw c.requires) last) c.number_field.ensures.text in
    let blocking = field_more _ _ _ demand c.number_field-2.ensures.text in
    let budget = field_more _ _ _ blocking c.number_field-3.ensures.text in
    let period = field_more _ _ _ budget c.number_field-4.ensures.text in
    field_more _ _ _ period c.number_field-5.ensures.text
