use Rattle.std.proofs.Common.{◌++◌, append_assoc}
use Rattle.std.specs.Prelude.{codes}
use Rattle.cu_io.proofs.Appending.{wrote_same, wrote_stops, wrote_then}
use Rattle.cu_router.specs.Swept.{dir_word}
use Rattle.cu_cli.proofs.faults.put_shortcut.Goals as goal

pub returns-in_err-put_word_and_number : goal.returns-in_err-put_word_and_number
returns-in_err-put_word_and_number g c =
    let rest = codes " " ++ dir_word c.args.dir in
    record { wrote = wrote_same (simp append_assoc) (wrote_stops rest c.from_residual.ensures.0 c.in_err-put_word_and_number.ensures.wrote) }

pub returns-in_err-put_all : goal.returns-in_err-put_all
returns-in_err-put_all g c =
    let dir = dir_word c.args.dir in
    let blank = wrote_then c.in_ok-put_word_and_number.ensures.wrote c.in_err-put_all.ensures.wrote in
    record { wrote = wrote_same (simp append_assoc) (wrote_stops dir c.from_residual-in_err-put_all.ensures.0 blank) }

pub returns : goal.returns
returns g c =
    let blank = wrote_then c.in_ok-put_word_and_number.ensures.wrote c.in_ok-put_all.ensures.wrote in
    record { wrote = wrote_same (simp append_assoc) (wrote_then blank c.put_dir.ensures.wrote) }
