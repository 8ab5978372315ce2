use Rattle.std.proofs.Common.{◌∙◌, ap, length, sym}
use Rattle.cu_model.specs.Networks.{NetworkValue}
use Rattle.cu_edits.specs.Together.{edits_of}
use Rattle.cu_edits.proofs.EditedLists.{profiles_all}
use Rattle.cu_edits.proofs.edited_roads.EditedRoadsRoads.profiles.Goals as goal

pub returns-clause-count : goal.returns-clause-count
returns-clause-count g c =
    let inside = c.self.inside in
    c.profiles.ensures.count ∙ sym (profiles_all (g.R.Roads.network inside.roads.now) (edits_of inside.edits)) ∙ ap (λ (n : NetworkValue). length n.profiles) c.self.view_is
