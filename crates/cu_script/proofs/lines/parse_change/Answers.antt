use Rattle.std.proofs.Common.{◌≡◌, ◌∙◌, ap, refl, subst, sym, true}
use Rattle.std.specs.Prelude.{bytes_eq, codes}
use Rattle.cu_model.specs.Queries.{fields_of_line}
use Rattle.cu_script.specs.EditLines.{edit_of, edit_of_fields, set_of_fields}
use Rattle.cu_script.proofs.LineLaws.{reads_same}
use Rattle.cu_script.proofs.lines.parse_change.Goals as goal

pub returns-in_ok-fields-clause-read : goal.returns-in_ok-fields-clause-read
returns-in_ok-fields-clause-read c =
    let whole = rw c.in_ok-fields.was at c.cut_field.ensures.cut in
    let is_set : bytes_eq c.cut_field.result.0.now (codes "s") ≡ true =
    subst (λ word. bytes_eq c.cut_field.result.0.now word ≡ true) c.as_slice.ensures (sym c.eq.ensures ∙ c.if-eq.true) in
    reads_same (λ arcs profiles. edit_of arcs profiles c.args.line.now) (λ arcs profiles. set_of_fields profiles (fields_of_line c.in_ok-fields.field-0.now)) c.parse_set.result
    (λ arcs profiles. ap (λ fields. edit_of_fields arcs profiles fields) whole ∙ rw is_set refl) c.parse_set.ensures.read
