-- "Admission": the number that a host is told of a reading, and what it is told beside.
use Rattle.std.specs.Prelude.{ℕ, ℤ, pos, Result, Ok, Err}
use Rattle.plan.specs.declared.Plan.{Plan}
use Rattle.reader.specs.declared.refusals.Refusal.{Refusal}
use Rattle.reader.specs.declared.refusals.Unasked.{Unasked}
use Rattle.reader.specs.Numbers.{number, beside, unasked_number, unasked_beside}

-- 0 for a plan, else the number of its refusal
unfoldable pub number_read : Result Plan Refusal → ℕ
number_read r = elim r [ Ok p ↦ 0 | Err e ↦ number e ]

-- the number beside it, 0 for a plan
unfoldable pub beside_read : Result Plan Refusal → ℕ
beside_read r = elim r [ Ok p ↦ 0 | Err e ↦ beside e ]

-- of a row's margin: 0, 24 for a row the plan lacks, or the plan's refusal
unfoldable pub asked_number : Result ℤ Unasked → ℕ
asked_number a = elim a [ Ok m ↦ 0 | Err e ↦ unasked_number e ]

-- the margin, or the number beside
unfoldable pub asked_value : Result ℤ Unasked → ℤ
asked_value a = elim a [ Ok m ↦ m | Err e ↦ pos (unasked_beside e) ]
