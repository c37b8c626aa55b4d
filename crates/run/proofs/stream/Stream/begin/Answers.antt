-- `run::stream::Stream::begin` meets its contract: the fresh state, line 1, nothing kept.
use Rattle.run.specs.Fed.{at_of}
use Rattle.run.specs.Stream.{start}
use Rattle.run.proofs.stream.Stream.begin.Goals as goal

pub returns : goal.returns
unfolding at_of start
returns c = rw (c.fresh.ensures, c.nothing.ensures)
