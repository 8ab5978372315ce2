use Rattle.std.proofs.Common.{◌∙◌, ap, length, sym}
use Rattle.cu_model.specs.Networks.{NetworkValue}
use Rattle.cu_edits.specs.Together.{edits_of}
use Rattle.cu_edits.proofs.EditedLists.{arcs_all}
use Rattle.cu_edits.proofs.edited_roads.EditedRoadsRoads.arcs.Goals as goal

pub returns-clause-count : goal.returns-clause-count
returns-clause-count g c =
    let inside = c.self.inside in
    c.arcs.ensures.count ∙ sym (arcs_all (g.R.Roads.network inside.roads.now) (edits_of inside.edits)) ∙ ap (λ (n : NetworkValue). length n.arcs) c.self.view_is
