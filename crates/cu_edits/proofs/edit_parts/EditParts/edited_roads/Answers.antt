use Rattle.std.proofs.Common.{subst}
use Rattle.cu_model.specs.Networks.{IsNetwork, NetworkValue}
use Rattle.cu_resettled.specs.ResettlingAll.{edited_all}
use Rattle.cu_edits.specs.Together.{FitEdits, edits_of}
use Rattle.cu_edits.proofs.EditedLists.{edited_networks}
use Rattle.cu_edits.proofs.edit_parts.EditParts.edited_roads.Goals as goal

pub of-requires-clause-fits : goal.of-requires-clause-fits
of-requires-clause-fits g c =
    let inside = c.self.inside in
    subst (λ (n : NetworkValue). FitEdits n inside.edits) (g.met.W.Ways.same_network inside.ways.now) c.self.invariant.1

pub of-requires-clause-sound : goal.of-requires-clause-sound
of-requires-clause-sound g c =
    let inside = c.self.inside in
    let parts = c.self.invariant.0.0 in
    let h = g.W.Ways.hierarchy inside.ways.now in
    subst (λ (n : NetworkValue). IsNetwork (edited_all n (edits_of inside.edits))) (g.met.W.Ways.same_network inside.ways.now)
    (edited_networks h.network (edits_of inside.edits) parts.hierarchy.1.network parts.range parts.pieces)
