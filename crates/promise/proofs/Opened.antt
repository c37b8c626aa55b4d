-- Names that open definitions: a proof that computes says `unfolding computes` and sees through all that is listed here.
use Rattle.below.specs.Below as BelowBelow
use Rattle.below.specs.Listed as BelowListed
use Rattle.below.specs.Quotient as BelowQuotient
use Rattle.text.specs.Bytes as TextBytes
use Rattle.text.specs.Lines as TextLines
use Rattle.text.specs.Numbers as TextNumbers
use Rattle.plan.specs.Accepted as PlanAccepted
use Rattle.plan.specs.Admission as PlanAdmission
use Rattle.plan.specs.Ceiling as PlanCeiling
use Rattle.plan.specs.Plan as PlanPlan
use Rattle.reader.specs.Conditions as ReaderConditions
use Rattle.reader.specs.Line as ReaderLine
use Rattle.reader.specs.Margin as ReaderMargin
use Rattle.reader.specs.Reading as ReaderReading
use Rattle.state.specs.Fresh as StateFresh
use Rattle.state.specs.State as StateState
use Rattle.state.specs.Update as StateUpdate
use Rattle.legal.specs.Legal as LegalLegal
use Rattle.choice.specs.Choice as ChoiceChoice
use Rattle.step.specs.Events as StepEvents
use Rattle.step.specs.Refusals as StepRefusals
use Rattle.step.specs.Step as StepStep
use Rattle.step.specs.Tick as StepTick
use Rattle.line.specs.Event as LineEvent
use Rattle.line.specs.Printed as LinePrinted
use Rattle.line.specs.Run as LineRun

unfoldable pub below_open : Unit {0}
unfolding BelowBelow.all BelowBelow.any BelowBelow.first BelowBelow.greatest BelowBelow.sum BelowListed.listed_onto BelowListed.listed BelowQuotient.rounded_up
below_open = tt

unfoldable pub text_open : Unit {0}
unfolding TextBytes.bytes TextBytes.same TextLines.onto TextLines.lines TextLines.empty_or_none TextLines.body TextLines.fields TextNumbers.is_digit TextNumbers.digits TextNumbers.is_number TextNumbers.worth TextNumbers.number TextNumbers.numbers TextNumbers.of_none TextNumbers.of_one TextNumbers.of_two TextNumbers.of_three TextNumbers.decimal_onto TextNumbers.decimal
text_open = tt

unfoldable pub plan_open : Unit {0}
unfolding PlanAccepted.counts_fit PlanAccepted.subsystem_fits PlanAccepted.task_fits PlanAccepted.resource_fits PlanAccepted.length_fits PlanAccepted.use_fits PlanAccepted.one_subsystem PlanAccepted.accepted PlanAdmission.blocking PlanAdmission.demand PlanAdmission.margin PlanAdmission.first_negative PlanAdmission.admitted PlanCeiling.local_ceiling PlanCeiling.global_ceiling PlanCeiling.ceiling PlanPlan.period PlanPlan.budget PlanPlan.owner PlanPlan.is_global PlanPlan.place PlanPlan.length_of PlanPlan.declares PlanPlan.level PlanPlan.highest PlanPlan.taken_before PlanPlan.foremost
plan_open = tt

unfoldable pub reader_open : Unit {0}
unfolding ReaderConditions.not_grammar ReaderConditions.kind_order ReaderConditions.too_many_rows ReaderConditions.no_such_row ReaderConditions.out_of_range ReaderConditions.twice ReaderConditions.two_subsystems ReaderConditions.above_budget ReaderLine.of_numbers ReaderLine.of_kind ReaderLine.of_kind_field ReaderLine.of_fields ReaderLine.line_of ReaderLine.kind_of ReaderMargin.asked_of ReaderMargin.asked_by ReaderMargin.asked ReaderReading.empty_plan ReaderReading.first_of ReaderReading.judged ReaderReading.opened ReaderReading.with_subsystem ReaderReading.with_task ReaderReading.with_resource ReaderReading.with_use ReaderReading.with_line ReaderReading.read_from ReaderReading.judged_rowless ReaderReading.listed_reading ReaderReading.judged_margins ReaderReading.reading
reader_open = tt

unfoldable pub state_open : Unit {0}
unfolding StateFresh.fresh StateState.idle_task StateState.held_place StateState.task_at StateState.left_of StateState.refill_of StateState.used_of StateState.has_budget StateState.is_idle StateState.is_ready StateState.is_started StateState.is_waiting StateState.is_active StateState.held_at StateState.holds StateState.last_held StateState.in_section StateState.section_left StateUpdate.with_held StateUpdate.with_task StateUpdate.with_left StateUpdate.with_used StateUpdate.readied StateUpdate.started StateUpdate.waiting_for StateUpdate.taking StateUpdate.giving_back
state_open = tt

unfoldable pub legal_open : Unit {0}
unfolding LegalLegal.implies LegalLegal.counts_legal LegalLegal.absent_subsystem LegalLegal.well_written LegalLegal.absent_task LegalLegal.held_legal LegalLegal.resting_legal LegalLegal.waiting_legal LegalLegal.section_legal LegalLegal.unused_legal LegalLegal.active_before LegalLegal.locals_legal LegalLegal.globals_legal LegalLegal.below_section LegalLegal.sections_legal LegalLegal.subsystem_legal LegalLegal.task_legal LegalLegal.legal
legal_open = tt

unfoldable pub choice_open : Unit {0}
unfolding ChoiceChoice.or_no_row ChoiceChoice.holds_at_ceiling ChoiceChoice.system_ceiling ChoiceChoice.ceiling_holder ChoiceChoice.chosen ChoiceChoice.below_locals ChoiceChoice.kept_from_ready ChoiceChoice.may_be_taken ChoiceChoice.taken ChoiceChoice.runs ChoiceChoice.chosen_task ChoiceChoice.running
choice_open = tt

unfoldable pub step_open : Unit {0}
unfolding StepEvents.answered StepEvents.released StepEvents.length_fits_budget StepEvents.with_taken StepEvents.locked StepEvents.unlocked StepEvents.ended_task StepRefusals.order_table StepRefusals.uses_resource StepRefusals.no_such_row StepRefusals.not_idle StepRefusals.not_running StepRefusals.not_declared StepRefusals.holds_already StepRefusals.not_last StepRefusals.still_holding StepRefusals.fifth_held StepRefusals.tests StepRefusals.refuses StepRefusals.first_refusal StepRefusals.refusal StepStep.done StepStep.stepped StepStep.unread StepStep.step StepTick.is_spent StepTick.shut_one StepTick.shut_turns StepTick.shut_spent StepTick.given_waited StepTick.charged StepTick.ran StepTick.refilled StepTick.tick_answer StepTick.tick_in StepTick.tick_idle StepTick.tick_after StepTick.ticked
step_open = tt

unfoldable pub line_open : Unit {0}
unfolding LineEvent.of_name LineEvent.of_fields LineEvent.event_of LinePrinted.row_text LinePrinted.is_in LinePrinted.comma_before LinePrinted.rows_onto LinePrinted.ended_text LinePrinted.spaced LinePrinted.answer_line LinePrinted.printed LinePrinted.printed_refusal LineRun.event_gives LineRun.line_gives LineRun.outcomes LineRun.printed_from LineRun.printed_run LineRun.run
line_open = tt

unfoldable pub computes : Unit {0}
unfolding below_open text_open plan_open reader_open state_open legal_open choice_open step_open line_open
computes = tt
