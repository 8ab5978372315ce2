use Rattle.std.proofs.Common.{◌++◌, append_assoc, decimal}
use Rattle.std.specs.Prelude.{codes}
use Rattle.cu_io.proofs.Appending.{wrote_then, wrote_stops, wrote_same}
use Rattle.cu_cli.proofs.faults.put_row_fault.Goals as goal

pub returns-in_err-put_all-2 : goal.returns-in_err-put_all-2
returns-in_err-put_all-2 g c =
    let blank = wrote_then c.in_ok-put_all.ensures.wrote c.in_err-put_all-2.ensures.wrote in
    record { wrote = wrote_same (simp append_assoc) (wrote_stops (decimal c.args.row ++ codes " " ++ c.args.word.now) c.from_residual-in_err-put_all-2.ensures.0 blank) }

pub returns-in_err-put_number : goal.returns-in_err-put_number
returns-in_err-put_number g c =
    let blank = wrote_then c.in_ok-put_all.ensures.wrote c.in_ok-put_all-2.ensures.wrote in
    let row = wrote_then blank (rw c.from.ensures at c.in_err-put_number.ensures.wrote) in
    record { wrote = wrote_same (simp append_assoc) (wrote_stops (codes " " ++ c.args.word.now) c.from_residual-in_err-put_number.ensures.0 row) }

pub returns-in_err-put_all-3 : goal.returns-in_err-put_all-3
returns-in_err-put_all-3 g c =
    let blank = wrote_then c.in_ok-put_all.ensures.wrote c.in_ok-put_all-2.ensures.wrote in
    let row = wrote_then blank (rw c.from.ensures at c.in_ok-put_number.ensures.wrote) in
    record { wrote = wrote_stops c.args.word.now c.from_residual-in_err-put_all-3.ensures.0 (wrote_then row c.in_err-put_all-3.ensures.wrote) }

pub returns : goal.returns
returns g c =
    let blank = wrote_then c.in_ok-put_all.ensures.wrote c.in_ok-put_all-2.ensures.wrote in
    let row = wrote_then blank (rw c.from.ensures at c.in_ok-put_number.ensures.wrote) in
    record { wrote = wrote_then (wrote_then row c.in_ok-put_all-3.ensures.wrote) c.put_all-4.ensures.wrote }
