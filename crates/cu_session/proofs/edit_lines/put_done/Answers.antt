use Rattle.std.proofs.Common.{decimal}
use Rattle.cu_io.proofs.Appending.{wrote_stops, wrote_then}
use Rattle.cu_session.proofs.edit_lines.put_done.Goals as goal

pub returns-in_err-put_all : goal.returns-in_err-put_all
returns-in_err-put_all g c = record { wrote = wrote_stops (decimal c.args.count) c.from_residual.ensures.0 c.in_err-put_all.ensures.wrote }

pub returns : goal.returns
returns g c = record { wrote = wrote_then c.in_ok-put_all.ensures.wrote c.put_number.ensures.wrote }
