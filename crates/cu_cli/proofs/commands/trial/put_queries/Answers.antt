use Rattle.std.proofs.Common.{◌++◌, append_assoc, decimal}
use Rattle.std.specs.Prelude.{codes}
use Rattle.cu_io.proofs.Appending.{wrote_same, wrote_stops, wrote_then}
use Rattle.cu_cli.proofs.commands.trial.put_queries.Goals as goal

pub returns-in_err-put_count : goal.returns-in_err-put_count
returns-in_err-put_count g c =
    let turns = rw c.from.ensures at c.in_err-put_count.ensures.wrote in
    let rest = codes " reached " ++ decimal c.args.tally.now.reached ++ codes " sum " ++ decimal c.args.tally.now.sum in
    record { wrote = λ _. wrote_same (simp append_assoc) (wrote_stops rest c.from_residual.ensures.0 turns) }

pub returns-in_err-put_count-2 : goal.returns-in_err-put_count-2
returns-in_err-put_count-2 g c =
    let turns = rw c.from.ensures at c.in_ok-put_count.ensures.wrote in
    let reached = rw c.from-2.ensures at c.in_err-put_count-2.ensures.wrote in
    let rest = codes " sum " ++ decimal c.args.tally.now.sum in
    record { wrote = λ _. wrote_same (simp append_assoc) (wrote_stops rest c.from_residual-in_err-put_count-2.ensures.0 (wrote_then turns reached)) }

pub returns : goal.returns
returns g c =
    let turns = rw c.from.ensures at c.in_ok-put_count.ensures.wrote in
    let reached = rw c.from-2.ensures at c.in_ok-put_count-2.ensures.wrote in
    record { wrote = λ _. wrote_same (simp append_assoc) (wrote_then (wrote_then turns reached) c.put_count-3.ensures.wrote) }
