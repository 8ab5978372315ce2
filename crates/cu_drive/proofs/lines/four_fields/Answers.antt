use Rattle.cu_model.specs.Queries.{fields_of_line}
use Rattle.std.proofs.Common.{refl}
use Rattle.cu_drive.proofs.FourFields.{five_or_more}
use Rattle.cu_drive.proofs.lines.four_fields.Goals as goal

pub returns-in-Some : goal.returns-in-Some
returns-in-Some c nodes =
    let first = rw c.in_ok-rest.was at c.cut_field.ensures.cut in
    let second = rw c.in_ok-rest-2.was at c.cut_field-2.ensures.cut in
    let third = rw c.in_ok-rest-3.was at c.cut_field-3.ensures.cut in
    let fourth = rw c.in-Some.is at c.cut_field-4.ensures.cut in
    five_or_more (fields_of_line c.args.line.now) c.cut_field.result.0.now c.cut_field-2.result.0.now c.cut_field-3.result.0.now c.cut_field-4.result.0.now
    c.in-Some.field-0.now nodes (rw (first, second, third, fourth) refl)
