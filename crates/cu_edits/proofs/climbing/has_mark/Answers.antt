use Rattle.std.proofs.Common.{◌∙◌, Bool, Some, ap, false}
use Rattle.std.proofs.lemmas.Option.{slice_get-get_or}
use Rattle.cu_edits.proofs.climbing.has_mark.Goals as goal

pub returns : goal.returns
returns c = λ on. slice_get-get_or c.args.marks.now c.args.edge false c.requires ∙ ap (λ (b : Bool). Some b) on
