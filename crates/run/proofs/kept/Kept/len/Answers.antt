-- `run::kept::Kept::len` meets its contract: there are no more than the 20 bytes of the array.
use Rattle.std.proofs.Common.{◌≡◌, rules, arith, length, length-take}
use Rattle.run.specs.Fed.{kept_of}
use Rattle.run.proofs.kept.Kept.len.Goals as goal

pub returns-clause-count : goal.returns-clause-count
unfolding kept_of
returns-clause-count c =
    let h : length c.args.self.now.bytes ≡ 20 = search rules in
    rw length-take (omega arith)
