use Rattle.std.proofs.Common.{◌∙◌, get_or, [], Bor, List, ℕ}
use Rattle.csv.specs.Records.{fields_of}
use Rattle.cu_tables.proofs.FieldFacts.{field_found, some_image, some_is}
use Rattle.cu_tables.proofs.fields.field.Goals as goal

pub unwrap-requires : goal.unwrap-requires
unwrap-requires c = some_image (λ (s : Bor (List ℕ)). s.now) c.get.result (get_or (fields_of c.args.row.now) c.args.index [])
    (c.get.ensures.value ∙ field_found (fields_of c.args.row.now) c.args.index c.requires)

pub returns : goal.returns
returns c = some_is (λ (s : Bor (List ℕ)). s.now) c.get.result c.unwrap.result (get_or (fields_of c.args.row.now) c.args.index [])
    (c.get.ensures.value ∙ field_found (fields_of c.args.row.now) c.args.index c.requires) c.unwrap.ensures
