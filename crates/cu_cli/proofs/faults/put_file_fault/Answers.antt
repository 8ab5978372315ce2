use Rattle.cu_io.proofs.Appending.{wrote_stops, wrote_then}
use Rattle.cu_cli.specs.Stops.{field_word}
use Rattle.cu_cli.proofs.faults.put_file_fault.Goals as goal

pub returns-in_err-put_all-in-Limit : goal.returns-in_err-put_all-in-Limit
returns-in_err-put_all-in-Limit g c =
    record { wrote = rw c.in-Limit.is (wrote_stops (field_word c.in-Limit.field) c.from_residual.ensures.0 c.in_err-put_all-in-Limit.ensures.wrote) }

pub returns-in_ok-put_all-in-Limit : goal.returns-in_ok-put_all-in-Limit
returns-in_ok-put_all-in-Limit g c =
    record { wrote = rw c.in-Limit.is (wrote_then c.in_ok-put_all-in-Limit.ensures.wrote (rw c.field_text.ensures at c.put_all-in-Limit-2.ensures.wrote)) }
