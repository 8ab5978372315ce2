use Rattle.std.proofs.Common.{◌∙◌, ap, sym}
use Rattle.cu_model.specs.Numbers.{is_number_word}
use Rattle.cu_model.specs.Queries.{fields_of_line}
use Rattle.cu_tables.specs.Tables.{kept_number}
use Rattle.cu_script.specs.EditLines.{set_of_fields}
use Rattle.cu_script.specs.Steps.LineChanges.{set_answer}
use Rattle.cu_script.proofs.LineLaws.{set_read, set_refused, some_if}
use Rattle.cu_script.proofs.lines.parse_set.Goals as goal

pub returns-then-has_pieces-clause-read : goal.returns-then-has_pieces-clause-read
returns-then-has_pieces-clause-read c arcs profiles _ narrow =
    let word = c.cut_field.result.0.now in
    let rest = c.in_ok-pieces.pieces.now in
    let whole = rw c.in_ok-pieces.was at c.cut_field.ensures.cut in
    let (number, kept) = some_if (is_number_word word) (kept_number word) c.in_ok-profile.profile (sym c.kept_number.ensures.number ∙ c.in_ok-profile.was) in
    ap (λ fields. set_of_fields profiles fields) whole
    ∙ set_read profiles word rest narrow number (sym c.has_pieces.ensures.threes ∙ c.if-has_pieces.true)
    ∙ ap (λ n. set_answer profiles n (fields_of_line rest)) kept

pub returns-else-has_pieces-clause-read : goal.returns-else-has_pieces-clause-read
returns-else-has_pieces-clause-read c arcs profiles =
    let whole = rw c.in_ok-pieces.was at c.cut_field.ensures.cut in
    ap (λ fields. set_of_fields profiles fields) whole
    ∙ set_refused profiles c.cut_field.result.0.now c.in_ok-pieces.pieces.now (sym c.has_pieces.ensures.threes ∙ c.if-has_pieces.false)
