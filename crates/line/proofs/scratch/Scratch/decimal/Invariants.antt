-- `line::scratch::Scratch::decimal` meets its contract. The loop's invariant: with the digits of `n` in front the whole number will stand there.
-- The measure is `n`.
use Rattle.line.proofs.Digits.{Written}
use Rattle.line.proofs.scratch.Scratch.decimal.Given as goal

abbrev pub invariant-loop-n : goal.invariant-loop-n
invariant-loop-n l = Written l.number l.n l.initial.self l.self

abbrev pub decreases-loop-n : goal.decreases-loop-n
decreases-loop-n l = l.n
