use Rattle.std.proofs.Common.{refl}
use Rattle.run.specs.Fed.{kept_of}
use Rattle.run.proofs.kept.Kept.nothing.Goals as goal

pub returns : goal.returns
unfolding kept_of
returns c = refl
