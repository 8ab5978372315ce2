use Rattle.std.proofs.Common.{◌∙◌, [], ap}
use Rattle.cu_edits.specs.Steps.Parts.{PartsValue, settling_over}
use Rattle.cu_edits.proofs.edit_settler.EditSettler.over_all.Goals as goal

pub returns : goal.returns
returns g c = c.of_parts.ensures ∙ ap (λ (p : PartsValue). settling_over p []) c.of-parts.ensures.parts
