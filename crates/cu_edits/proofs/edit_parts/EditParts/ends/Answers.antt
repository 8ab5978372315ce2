use Rattle.std.proofs.Common.{subst}
use Rattle.cu_edits.specs.Steps.Parts.{FitTogether}
use Rattle.cu_edits.proofs.edit_parts.EditParts.ends.Goals as goal

pub returns-clause-fit : goal.returns-clause-fit
returns-clause-fit g c = subst FitTogether c.self.view_is c.self.invariant.0
