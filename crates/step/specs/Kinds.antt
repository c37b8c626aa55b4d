-- The kinds of events and their numbers, 0 to 4.
use Rattle.std.specs.Prelude.{◌≡◌, ◌<◌, ℕ, Option, Some, None}
use Rattle.step.specs.declared.Kind.{Kind}
use Rattle.step.specs.declared.Kind.TheVariants.{Release, Lock, Unlock, End, Tick}
use Rattle.step.specs.Refusals.{release, lock, unlock, end, tick}

-- the number of a kind
abbrev pub kind_number : Kind → ℕ
kind_number Release = release
kind_number Lock = lock
kind_number Unlock = unlock
kind_number End = end
kind_number Tick = tick

-- the kind of a number, or none where the number is past those of the kinds
abbrev pub NumberOf : ℕ → Option Kind → Type 0
NumberOf n None = tick < n
NumberOf n (Some kind) = kind_number kind ≡ n
