use Rattle.std.proofs.Common.{◌++◌, append_assoc, decimal}
use Rattle.std.specs.Prelude.{codes}
use Rattle.cu_io.proofs.Appending.{wrote_same, wrote_stops, wrote_then}
use Rattle.cu_reach.specs.ReachTexts.{dir_text}
use Rattle.cu_reach.proofs.writing.put_damage.Goals as goal

pub returns-in_err-put_word_and_long : goal.returns-in_err-put_word_and_long
returns-in_err-put_word_and_long g c =
    let rest = codes " " ++ (dir_text c.args.dir ++ (codes " " ++ decimal c.args.second)) in
    let edge = rw c.from.ensures at c.in_err-put_word_and_long.ensures.wrote in
    record { wrote = wrote_same (simp append_assoc) (wrote_stops rest c.from_residual.ensures.0 edge) }

pub returns-in_err-put_all : goal.returns-in_err-put_all
returns-in_err-put_all g c =
    let rest = dir_text c.args.dir ++ (codes " " ++ decimal c.args.second) in
    let edge = rw c.from.ensures at c.in_ok-put_word_and_long.ensures.wrote in
    let blank = wrote_then edge c.in_err-put_all.ensures.wrote in
    record { wrote = wrote_same (simp append_assoc) (wrote_stops rest c.from_residual-in_err-put_all.ensures.0 blank) }

pub returns-in_err-put_dir : goal.returns-in_err-put_dir
returns-in_err-put_dir g c =
    let rest = codes " " ++ decimal c.args.second in
    let edge = rw c.from.ensures at c.in_ok-put_word_and_long.ensures.wrote in
    let dir = wrote_then (wrote_then edge c.in_ok-put_all.ensures.wrote) c.in_err-put_dir.ensures.wrote in
    record { wrote = wrote_same (simp append_assoc) (wrote_stops rest c.from_residual-in_err-put_dir.ensures.0 dir) }

pub returns : goal.returns
returns g c =
    let edge = rw c.from.ensures at c.in_ok-put_word_and_long.ensures.wrote in
    let dir = wrote_then (wrote_then edge c.in_ok-put_all.ensures.wrote) c.in_ok-put_dir.ensures.wrote in
    record { wrote = wrote_same (simp append_assoc) (wrote_then dir c.put_word_and_long-2.ensures.wrote) }
