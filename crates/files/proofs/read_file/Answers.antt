use Rattle.std.proofs.Common.{◌-◌, rules, length, sym, subst, le_refl}
use Rattle.std.proofs.lemmas.Slice.{take-put_mid_below}
use Rattle.std.specs.Io.KnownBytes.{Consumes}
use Rattle.std.proofs.KnownBytes.{Consumes-trans, Consumes-kept}
use Rattle.files.proofs.Counting.{take-put_mid_more, take-put_mid_none}
use Rattle.files.proofs.read_file.Goals as goal

pub returns-in-Err-clause-bytes : goal.returns-in-Err-clause-bytes
returns-in-Err-clause-bytes g c =
    subst (Consumes _ _) (sym (take-put_mid_below _ _ _ _ _ (le_refl _) c.loop-at.invariant.0))
    (Consumes-kept _ _ _ _ c.loop-at.invariant.2 c.in-Err.ensures.bytes)

pub returns-then-n-eq0-clause-bytes : goal.returns-then-n-eq0-clause-bytes
returns-then-n-eq0-clause-bytes g c =
    subst (Consumes _ _) (sym (take-put_mid_none _ _ _ _ _ c.if-n-eq0.true c.loop-at.invariant.0))
    (Consumes-trans _ _ _ _ _ c.loop-at.invariant.2 c.in-Ok.ensures.bytes.0)

pub loop-at-preserved : goal.loop-at-preserved
loop-at-preserved g c =
    let most = length c.loop-at.buf - c.loop-at.at in (
      search rules,
      search rules,
      subst (Consumes _ _) (sym (take-put_mid_more c.loop-at.at most c.in-Ok.n c.loop-at.buf c.read.new.buf c.loop-at.invariant.0 c.in-Ok.ensures.bound.0))
          (Consumes-trans _ _ _ _ _ c.loop-at.invariant.2 c.in-Ok.ensures.bytes.0),
    )

pub returns-clause-bytes : goal.returns-clause-bytes
returns-clause-bytes g c = c.loop-at.invariant.2
