-- An accepted plan begins legal, and the output buffer has room for any line.
use Rattle.std.proofs.Common.{rules, arith}
use Rattle.skrzypolot.proofs.FirstState.{first_state}
use Rattle.skrzypolot.proofs.events.run_events.Goals as goal

pub run_pieces-requires : goal.run_pieces-requires
run_pieces-requires c =
    let a = rw c.in-Ok-r.is at c.requires in (
      search rules,
      omega arith,
      omega arith,
      first_state c.in-Ok-r.p a c.with_ceilings-c.ensures c.begin-stream.result c.begin-stream.ensures,
    )
