use Rattle.cu_io.proofs.Appending.{wrote_then, wrote_stops}
use Rattle.cu_cli.proofs.faults.put_profile_fault.Goals as goal

pub returns-in_err-put_row_fault-in-Row : goal.returns-in_err-put_row_fault-in-Row
returns-in_err-put_row_fault-in-Row g c =
    record { wrote = rw c.in-Row.is (wrote_stops _ c.from_residual.ensures.0 c.in_err-put_row_fault-in-Row.ensures.wrote) }

pub returns-in_ok-put_row_fault-in-Row : goal.returns-in_ok-put_row_fault-in-Row
returns-in_ok-put_row_fault-in-Row g c =
    record { wrote = rw c.in-Row.is (wrote_then c.in_ok-put_row_fault-in-Row.ensures.wrote c.put_piece_refusal.ensures.wrote) }
