use Rattle.std.proofs.Common.{◌++◌, append_assoc, sym}
use Rattle.std.specs.Prelude.{codes}
use Rattle.std.proofs.lemmas.List.{append-nil}
use Rattle.cu_io.proofs.Appending.{line_same, line_stops, line_then, wrote_then}
use Rattle.cu_cli.specs.Stops.{place_words, way_words}
use Rattle.cu_cli.proofs.StopLaws.{line_breaks}
use Rattle.cu_cli.proofs.faults.put_difference_line.Goals as goal

pub returns-in_err-put_place : goal.returns-in_err-put_place
returns-in_err-put_place g c =
    let place = place_words c.args.found.edge c.args.found.dir c.args.found.second in
    let stored = codes " " ++ way_words c.args.found.stored in
    let built = codes " " ++ way_words c.args.found.built in
    record { wrote = line_same (sym (append_assoc place stored built)) (line_breaks (stored ++ built) c.from_residual.ensures.0 c.in_err-put_place.ensures.wrote) }

pub returns-in_err-put_way : goal.returns-in_err-put_way
returns-in_err-put_way g c =
    let built = codes " " ++ way_words c.args.found.built in
    record { wrote = line_breaks built c.from_residual-in_err-put_way.ensures.0 (wrote_then c.in_ok-put_place.ensures.wrote c.in_err-put_way.ensures.wrote) }

pub returns-in_err-put_way-2 : goal.returns-in_err-put_way-2
returns-in_err-put_way-2 g c =
    let stored = wrote_then c.in_ok-put_place.ensures.wrote c.in_ok-put_way.ensures.wrote in
    record { wrote = line_stops c.from_residual-in_err-put_way-2.ensures.0 (wrote_then stored c.in_err-put_way-2.ensures.wrote) }

pub returns : goal.returns
returns g c =
    let stored = wrote_then c.in_ok-put_place.ensures.wrote c.in_ok-put_way.ensures.wrote in
    let built = wrote_then stored c.in_ok-put_way-2.ensures.wrote in
    record { wrote = line_same (append-nil _) (line_then built c.end_line.ensures.wrote) }
