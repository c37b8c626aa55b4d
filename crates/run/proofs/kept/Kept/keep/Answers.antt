-- `run::kept::Kept::keep` meets its contract: as many bytes as there is room for are put behind those that are kept.
use Rattle.std.proofs.Common.{rules}
use Rattle.run.specs.Fed.{kept_of}
use Rattle.run.proofs.KeptBytes.{kept_put}
use Rattle.run.proofs.kept.Kept.keep.Goals as goal

pub returns : goal.returns
unfolding kept_of
returns c =
    kept_put c.args.self.now.bytes c.args.part.now _ c.args.self.now.length c.len-n.result c.min-count.result _ (search rules) c.len-n.ensures.count c.min-count.ensures c.copy_from_slice.ensures.after
