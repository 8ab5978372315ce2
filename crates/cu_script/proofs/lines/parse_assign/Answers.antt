use Rattle.std.proofs.Common.{◌∙◌, ap, ◌∷◌}
use Rattle.cu_model.specs.Queries.{fields_of_line}
use Rattle.cu_script.proofs.LineLaws.{three_or_more}
use Rattle.cu_script.proofs.lines.parse_assign.Goals as goal

pub returns-in-Some-clause-read : goal.returns-in-Some-clause-read
returns-in-Some-clause-read c arcs profiles =
    let first = rw c.in_ok-rest.was at c.cut_field.ensures.cut in
    let second = rw c.in-Some.is at c.cut_field-2.ensures.cut in
    three_or_more arcs profiles (fields_of_line c.args.fields.now) c.cut_field.result.0.now c.cut_field-2.result.0.now c.in-Some.field-0.now
    (first ∙ ap (λ fields. c.cut_field.result.0.now ∷ fields) second)
