use Rattle.std.proofs.Common.{arith, ◌∙◌, ap}
use Rattle.cu_reach.specs.NodeFields.{IsNodeWord, fields_in}
use Rattle.cu_reach.proofs.FieldLaws.{cut_fields, nodes_behind}
use Rattle.cu_reach.proofs.tables.NodeFieldsIterator.next.Goals as goal

pub invariant_of-self : goal.invariant_of-self
invariant_of-self c =
    let cut = cut_fields c.in_ok-self.field-0.now c.cut_field.result.0.now c.cut_field.result.1 c.cut_field.ensures.cut in
    nodes_behind IsNodeWord (fields_in c.self.inside.line) _ _ c.self.inside.left (ap fields_in c.in_ok-self.was ∙ cut) (omega (arith, c.if-self-eq0.false))
    c.self.invariant.0 c.self.invariant.1
