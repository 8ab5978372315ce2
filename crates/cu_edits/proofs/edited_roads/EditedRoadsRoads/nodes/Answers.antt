use Rattle.std.proofs.Common.{◌∙◌, ap, sym}
use Rattle.cu_model.specs.Networks.{NetworkValue}
use Rattle.cu_edits.specs.Together.{edits_of}
use Rattle.cu_edits.proofs.EditedLists.{nodes_all}
use Rattle.cu_edits.proofs.edited_roads.EditedRoadsRoads.nodes.Goals as goal

pub returns-clause-count : goal.returns-clause-count
returns-clause-count g c =
    let inside = c.self.inside in
    c.nodes.ensures.count ∙ sym (nodes_all (g.R.Roads.network inside.roads.now) (edits_of inside.edits)) ∙ ap (λ (n : NetworkValue). n.nodes) c.self.view_is
