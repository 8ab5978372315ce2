use Rattle.std.proofs.Common.{append_assoc}
use Rattle.cu_io.proofs.Appending.{wrote_same, wrote_stops, wrote_then}
use Rattle.cu_forms.specs.DayTexts.{rule_text}
use Rattle.cu_forms.specs.Said.{rule_said}
use Rattle.cu_forms.proofs.writing.put_piece.Goals as goal

pub returns-in_err-put_word_and_number : goal.returns-in_err-put_word_and_number
returns-in_err-put_word_and_number g c =
    let first = rw c.from.ensures at c.in_err-put_word_and_number.ensures.wrote in
    record { wrote = wrote_same (simp append_assoc) (wrote_stops (rule_text (rule_said c.args.piece.rule)) c.from_residual.ensures.0 first) }

pub returns : goal.returns
returns g c =
    let first = rw c.from.ensures at c.in_ok-put_word_and_number.ensures.wrote in
    record { wrote = wrote_same (simp append_assoc) (wrote_then first c.put_rule.ensures.wrote) }
