use Rattle.cu_io.proofs.Appending.{wrote_then}
use Rattle.cu_cli.proofs.faults.put_number_and_word.Goals as goal

pub returns : goal.returns
returns g c = record { wrote = wrote_then (rw c.from.ensures at c.in_ok-put_number.ensures.wrote) c.put_all.ensures.wrote }
