use Rattle.std.proofs.Common.{subst}
use Rattle.cu_edits.specs.Steps.Parts.{FitTogether}
use Rattle.cu_edits.proofs.edit_parts.EditParts.is_marked.Goals as goal

pub returns-then-place-self-clause-fit : goal.returns-then-place-self-clause-fit
returns-then-place-self-clause-fit g c = subst FitTogether c.self.view_is c.self.invariant.0

pub returns-else-place-self-clause-fit : goal.returns-else-place-self-clause-fit
returns-else-place-self-clause-fit g c = subst FitTogether c.self.view_is c.self.invariant.0
