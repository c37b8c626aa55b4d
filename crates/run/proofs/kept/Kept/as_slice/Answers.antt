-- `run::kept::Kept::as_slice` meets its contract: what is kept lies within its bytes.
use Rattle.run.specs.Fed.{kept_of}
use Rattle.run.proofs.KeptBytes.{take_length_take}
use Rattle.run.proofs.kept.Kept.as_slice.Goals as goal

pub returns : goal.returns
unfolding kept_of
returns c = rw c.len.ensures.count (take_length_take c.args.self.now.length c.args.self.now.bytes)
