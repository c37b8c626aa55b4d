-- The tests that led to a return are those of the table.
use Rattle.std.proofs.Common.{refl, sym, ◌∙◌}
use Rattle.reader.specs.Reading.{first_of}
use Rattle.reader.proofs.Judged.{use_tests, both_rows}
use Rattle.reader.proofs.judge.judge_use.Goals as goal

pub returns-then-out_of_range : goal.returns-then-out_of_range
unfolding first_of
returns-then-out_of_range c =
    sym (use_tests _ _ _ _ _ (both_rows _ _ _ _ c.if-p-task.false c.if-p-resource.false) (sym (c.out_of_range.ensures _) ∙ c.if-out_of_range.true) refl refl refl)

pub returns-then-declares : goal.returns-then-declares
unfolding first_of
returns-then-declares c =
    sym
    (use_tests _ _ _ _ _ (both_rows _ _ _ _ c.if-p-task.false c.if-p-resource.false) (sym (c.out_of_range.ensures _) ∙ c.if-out_of_range.false)
    (sym c.declares.ensures ∙ c.if-declares.true) refl refl)

pub returns-then-two_subsystems : goal.returns-then-two_subsystems
unfolding first_of
returns-then-two_subsystems c =
    sym
    (use_tests _ _ _ _ _ (both_rows _ _ _ _ c.if-p-task.false c.if-p-resource.false) (sym (c.out_of_range.ensures _) ∙ c.if-out_of_range.false)
    (sym c.declares.ensures ∙ c.if-declares.false) (sym (c.two_subsystems.ensures _) ∙ c.if-two_subsystems.true) refl)

pub returns-then-above_budget : goal.returns-then-above_budget
unfolding first_of
returns-then-above_budget c =
    sym
    (use_tests _ _ _ _ _ (both_rows _ _ _ _ c.if-p-task.false c.if-p-resource.false) (sym (c.out_of_range.ensures _) ∙ c.if-out_of_range.false)
    (sym c.declares.ensures ∙ c.if-declares.false) (sym (c.two_subsystems.ensures _) ∙ c.if-two_subsystems.false) (sym (c.above_budget.ensures _) ∙ c.if-above_budget.true))

pub returns : goal.returns
unfolding first_of
returns c =
    sym
    (use_tests _ _ _ _ _ (both_rows _ _ _ _ c.if-p-task.false c.if-p-resource.false) (sym (c.out_of_range.ensures _) ∙ c.if-out_of_range.false)
    (sym c.declares.ensures ∙ c.if-declares.false) (sym (c.two_subsystems.ensures _) ∙ c.if-two_subsystems.false) (sym (c.above_budget.ensures _) ∙ c.if-above_budget.false))
