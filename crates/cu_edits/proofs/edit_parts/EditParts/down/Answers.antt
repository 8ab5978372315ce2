use Rattle.std.proofs.Common.{ℕ, subst}
use Rattle.std.specs.Prelude.{◌↔◌}
use Rattle.std.specs.List.{Contains}
use Rattle.cu_chordal.specs.Graphs.{HasEdge}
use Rattle.cu_edits.specs.Steps.Parts.{PartsValue}
use Rattle.cu_edits.proofs.edit_parts.EditParts.down.Goals as goal

pub returns-clause-members : goal.returns-clause-members
returns-clause-members g c =
    subst (λ (p : PartsValue). (x : ℕ) → Contains c.down.result.now x ↔ HasEdge p.graph.edges x c.args.rank) c.self.view_is c.down.ensures.members
