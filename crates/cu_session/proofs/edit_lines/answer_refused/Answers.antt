use Rattle.std.proofs.Common.{◌++◌}
use Rattle.std.specs.Prelude.{codes}
use Rattle.std.proofs.lemmas.List.{append-nil}
use Rattle.cu_io.proofs.Appending.{line_then, line_stops, line_same}
use Rattle.cu_session.specs.Refusals.{edit_check_words}
use Rattle.cu_session.proofs.edit_lines.answer_refused.Goals as goal

pub returns-in_err-put_edit_refusal : goal.returns-in_err-put_edit_refusal
returns-in_err-put_edit_refusal g c = record { wrote = line_stops c.from_residual.ensures.0 c.in_err-put_edit_refusal.ensures.wrote }

pub returns : goal.returns
returns g c =
    record { wrote = line_same (append-nil (codes "refused: " ++ edit_check_words c.args.refusal)) (line_then c.in_ok-put_edit_refusal.ensures.wrote c.end_line.ensures.wrote) }
