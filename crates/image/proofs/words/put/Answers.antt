-- The bytes take the place of as many.
use Rattle.std.proofs.Common.{refl, arith}
use Rattle.std.proofs.lemmas.Slice.{put_mid-paste}
use Rattle.image.proofs.words.put.Goals as goal

pub returns : goal.returns
returns c = put_mid-paste _ _ _ _ _ _ c.copy_from_slice.ensures.after (omega arith) refl
