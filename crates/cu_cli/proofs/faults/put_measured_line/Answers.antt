use Rattle.std.proofs.lemmas.List.{append-nil}
use Rattle.cu_io.proofs.Appending.{wrote_then, line_then, line_stops, line_same}
use Rattle.cu_cli.proofs.StopLaws.{line_breaks}
use Rattle.cu_cli.proofs.faults.put_measured_line.Goals as goal

pub returns-in_err-put_all : goal.returns-in_err-put_all
returns-in_err-put_all g c = record { wrote = line_breaks _ c.from_residual.ensures.0 c.in_err-put_all.ensures.wrote }

pub returns-in_err-put_measured_words : goal.returns-in_err-put_measured_words
returns-in_err-put_measured_words g c =
    record { wrote = line_stops c.from_residual-in_err-put_measured_words.ensures.0 (wrote_then c.in_ok-put_all.ensures.wrote c.in_err-put_measured_words.ensures.wrote) }

pub returns : goal.returns
returns g c =
    record { wrote = line_same (append-nil _) (line_then (wrote_then c.in_ok-put_all.ensures.wrote c.in_ok-put_measured_words.ensures.wrote) c.end_line.ensures.wrote) }
