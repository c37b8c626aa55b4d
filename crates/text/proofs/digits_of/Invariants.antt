-- What is left, read behind `n`, is the whole, and `n` has at most as many digits as were read.
use Rattle.std.proofs.Common.{◌≡◌, ◌^◌, ◌<◌, drop}
use Rattle.text.specs.Digits.{behind}
use Rattle.text.proofs.digits_of.Given as goal

abbrev pub invariant-loop-b : goal.invariant-loop-b
invariant-loop-b l = (behind (drop l.b-index l.s) l.n ≡ behind l.s 0) × (l.n < 10 ^ l.b-index)
