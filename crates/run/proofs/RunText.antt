-- A whole run whose lines all had room stands in the buffer as its printed text.
use Rattle.std.proofs.Common.{◌≡◌, ap, ◌∙◌, true, List, ◌++◌, ℕ, ◌+◌, length, take, drop}
use Rattle.line.specs.Run.{run}
use Rattle.run.specs.AsFar.{as_far, as_far_out, fill_of, is_whole}
use Rattle.run.specs.Running.{run_lines}
use Rattle.run.proofs.OneText.{whole_text}
use Rattle.run.proofs.PutLines.{lines_run}

module _ (plan events out : List ℕ) (fill : ℕ) (w : is_whole (as_far (run_lines plan events) out fill) ≡ true) where
  pub run_fill : fill_of (as_far (run_lines plan events) out fill) ≡ fill + length (run plan events)
  run_fill = ap fill_of (whole_text (run_lines plan events) out fill w).answer ∙ rw lines_run

  pub run_text : as_far_out (run_lines plan events) out fill ≡ take fill out ++ (run plan events ++ drop (fill + length (run plan events)) out)
  run_text = (whole_text (run_lines plan events) out fill w).holds ∙ rw lines_run
