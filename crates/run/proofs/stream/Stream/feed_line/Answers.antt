-- `run::stream::Stream::feed_line` meets its contract: the first line feed ends the line, or the piece ends within it.
use Rattle.std.proofs.Common.{◌≡◌, ℕ, ◌+◌, ◌≤◌, length, take, sym, ap, ◌∙◌, arith, zero-add}
use Rattle.text.specs.Lines.{line_feed, until}
use Rattle.text.proofs.Parted.{whole}
use Rattle.text.proofs.Until.{until_le}
use Rattle.run.specs.Stream.{keeping}
use Rattle.run.specs.Fed.{at_of, first_line}
use Rattle.run.proofs.TakenLines.{put_quiet, put_as}
use Rattle.run.proofs.WholeLines.{inside_fed}
use Rattle.run.proofs.FirstLines.{first_ended, first_length, first_whole}
use Rattle.run.proofs.stream.Stream.feed_line.Goals.{After-find-end}
use Rattle.run.proofs.stream.Stream.feed_line.Goals as goal

-- where the line feed was found, or the end
found : (c : After-find-end) → c.find-end.result ≡ until line_feed c.args.rest.now
found c = c.find-end.ensures ∙ zero-add _

-- the line up to it
part : (c : After-find-end) → take (c.find-end.result + 1) c.args.rest.now ≡ first_line c.args.rest.now
unfolding first_line
part c = ap (λ (k : ℕ). take (k + 1) c.args.rest.now) (found c)

pub end_line-requires : goal.end_line-requires
end_line-requires c =
    let d = (goal.at.end_line-requires c).After-find-end in
    rw (part d) (first_ended c.args.rest.now (omega (arith, found d, c.if-end-rest.true)))

pub returns-in_err-fill-clause-put : goal.returns-in_err-fill-clause-put
returns-in_err-fill-clause-put c l =
    rw c.from_residual.ensures (rw (part (goal.at.returns-in_err-fill-clause-put c).After-find-end, c.in_err-fill.was) at (c.end_line.ensures.put l))

pub returns-then-end-rest-clause-within : goal.returns-then-end-rest-clause-within
returns-then-end-rest-clause-within c =
    let e = found (goal.at.returns-then-end-rest-clause-within c).After-find-end in
    (omega (arith, e, first_length c.args.rest.now (omega (arith, e, c.if-end-rest.true))), c.in_ok-fill.ensures.within)

pub returns-then-end-rest-clause-put : goal.returns-then-end-rest-clause-put
returns-then-end-rest-clause-put c l =
    rw (part (goal.at.returns-then-end-rest-clause-put c).After-find-end, c.in_ok-fill.was) at (c.end_line.ensures.put l)

-- the piece ends within the line
pub returns-clause-within : goal.returns-clause-within
returns-clause-within c =
    let t = c.args.rest.now in
    let e = found (goal.at.returns-clause-within c).After-find-end in
    (omega (arith, e, until_le line_feed t, c.if-end-rest.false, ap length (first_whole t (omega (arith, e, c.if-end-rest.false)))), λ h. h)

pub returns-clause-put : goal.returns-clause-put
unfolding at_of keeping
returns-clause-put c l =
    let a = c.args in
    let t = a.rest.now in
    let h : length t ≤ until line_feed t = omega (arith, found (goal.at.returns-clause-put c).After-find-end, c.if-end-rest.false) in
    let e = inside_fed a.c.now.plan (at_of a.self.now) t c.requires (whole line_feed t h) in
    rw (first_whole t h, c.keep.ensures) (put_as (sym e.0) (sym e.1) (put_quiet (at_of a.self.now) (keeping (at_of a.self.now) t) a.out.now a.fill))
