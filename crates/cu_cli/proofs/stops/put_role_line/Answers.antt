use Rattle.cu_io.proofs.Appending.{line_then}
use Rattle.cu_cli.proofs.stops.put_role_line.Goals as goal

pub returns : goal.returns
returns g c = record { wrote = line_then c.in_ok-put_all.ensures.wrote (rw c.word.ensures at c.put_line.ensures.wrote) }
