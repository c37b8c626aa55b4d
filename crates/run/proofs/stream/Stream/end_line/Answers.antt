-- `run::stream::Stream::end_line` meets its contract: with nothing kept the line is read where it lies, otherwise through the kept bytes.
use Rattle.std.proofs.Common.{◌≡◌, length, ◌∙◌, arith}
use Rattle.run.specs.Fed.{kept_of, at_of}
use Rattle.run.proofs.KeptBytes.{none_of}
use Rattle.run.proofs.TakenLines.{put_as}
use Rattle.run.proofs.WholeLines.{end_there, end_kept}
use Rattle.run.proofs.stream.Stream.end_line.Goals as goal

pub returns-then-len-eq0-clause-put : goal.returns-then-len-eq0-clause-put
unfolding at_of
returns-then-len-eq0-clause-put c l =
    let a = c.args in
    let z : length (kept_of a.self.now.kept) ≡ 0 = omega (arith, c.if-len-eq0.true, c.len.ensures.count) in
    let e = end_there a.c.now.plan (at_of a.self.now) a.part.now c.requires (none_of _ z) in
    put_as e.0 e.1 (c.answer.ensures.put l)

pub returns-clause-put : goal.returns-clause-put
unfolding at_of
returns-clause-put c l =
    let a = c.args in
    let e = end_kept a.c.now.plan (at_of a.self.now) a.part.now c.requires _ (c.as_slice.ensures ∙ c.keep.ensures) in
    put_as e.0 e.1 (c.answer-2.ensures.put l)
