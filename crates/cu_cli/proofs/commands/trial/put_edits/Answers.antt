use Rattle.std.proofs.Common.{◌++◌, append_assoc, decimal}
use Rattle.std.specs.Prelude.{codes}
use Rattle.cu_io.proofs.Appending.{wrote_same, wrote_stops, wrote_then}
use Rattle.cu_cli.proofs.commands.trial.put_edits.Goals as goal

pub returns-in_err-put_count : goal.returns-in_err-put_count
returns-in_err-put_count g c =
    let edits = rw c.from.ensures at c.in_err-put_count.ensures.wrote in
    let rest = codes " touched " ++ decimal c.args.tally.now.touched in
    record { wrote = λ _. wrote_same (simp append_assoc) (wrote_stops rest c.from_residual.ensures.0 edits) }

pub returns : goal.returns
returns g c =
    let edits = rw c.from.ensures at c.in_ok-put_count.ensures.wrote in
    record { wrote = λ _. wrote_same (simp append_assoc) (wrote_then edits c.put_count-2.ensures.wrote) }
