use Rattle.std.proofs.Common.{◌++◌, decimal}
use Rattle.std.specs.Prelude.{codes}
use Rattle.std.proofs.lemmas.List.{append-nil}
use Rattle.cu_io.proofs.Appending.{line_then, line_stops, line_same}
use Rattle.cu_session.proofs.edit_lines.answer_done.Goals as goal

pub returns-in_err-put_done : goal.returns-in_err-put_done
returns-in_err-put_done g c = record { wrote = line_stops c.from_residual.ensures.0 c.in_err-put_done.ensures.wrote }

pub returns : goal.returns
returns g c = record { wrote = line_same (append-nil (codes "done " ++ decimal c.args.count)) (line_then c.in_ok-put_done.ensures.wrote c.end_line.ensures.wrote) }
