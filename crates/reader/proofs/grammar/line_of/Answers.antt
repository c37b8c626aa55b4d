-- A letter, a tab, and what the letter's fields say.
use Rattle.std.proofs.Common.{sym, ◌∙◌, arith}
use Rattle.reader.proofs.Letters.{line_short, line_long, line_other, line_S, line_T, line_R, line_U}
use Rattle.reader.proofs.grammar.line_of.Goals as goal
use Rattle.reader.proofs.grammar.line_of.Goals.{then-s-lt2-via-then-s-lt2, then-s-lt2-via-else-s-lt2+then-s-ne-TAB}

pub returns-then-s-lt2 : goal.returns-then-s-lt2
returns-then-s-lt2 c =
    elim c.then-s-lt2.branch [
      | then-s-lt2-via-then-s-lt2 w ↦ sym (line_short _ w.if-s-lt2.true)
      | then-s-lt2-via-else-s-lt2+then-s-ne-TAB w ↦ sym (line_long _ w.if-s-lt2.false w.if-s-ne-TAB.true)
    ]

pub returns-in-83 : goal.returns-in-83
returns-in-83 c = c.subsystem_of.ensures ∙ sym (line_S _ c.if-s-lt2.false c.if-s-ne-TAB.false c.in-83.is)

pub returns-in-84 : goal.returns-in-84
returns-in-84 c = c.task_of.ensures ∙ sym (line_T _ c.if-s-lt2.false c.if-s-ne-TAB.false c.in-84.is)

pub returns-in-82 : goal.returns-in-82
returns-in-82 c = c.resource_of.ensures ∙ sym (line_R _ c.if-s-lt2.false c.if-s-ne-TAB.false c.in-82.is)

pub returns-in-85 : goal.returns-in-85
returns-in-85 c = c.uses_of.ensures ∙ sym (line_U _ c.if-s-lt2.false c.if-s-ne-TAB.false c.in-85.is)

pub returns-in_default : goal.returns-in_default
returns-in_default c = sym (line_other _ (omega arith) (omega arith) (omega arith) (omega arith))
