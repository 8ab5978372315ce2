use Rattle.cu_io.proofs.Appending.{wrote_then}
use Rattle.cu_cli.proofs.faults.put_road_fault.Goals as goal

pub returns-in_ok-put_all-in-Header : goal.returns-in_ok-put_all-in-Header
returns-in_ok-put_all-in-Header g c =
    record { wrote = rw c.in-Header.is (wrote_then (rw c.file_text.ensures at c.in_ok-put_all-in-Header.ensures.wrote) c.put_all-in-Header.ensures.wrote) }
