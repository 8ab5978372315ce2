use Rattle.std.proofs.Common.{◌<◌, length, arith, subst, sym}
use Rattle.cu_model.specs.Networks.{NetworkValue}
use Rattle.cu_edits.specs.Together.{edits_of}
use Rattle.cu_edits.proofs.EditedLists.{arcs_all}
use Rattle.cu_edits.proofs.edited_roads.EditedRoadsRoads.arc.Goals as goal

pub arc-road-requires : goal.arc-road-requires
arc-road-requires g c =
    let inside = c.self.inside in
    let count = arcs_all (g.R.Roads.network inside.roads.now) (edits_of inside.edits) in
    let lt = subst (λ (n : NetworkValue). c.args.arc < length n.arcs) (sym c.self.view_is) c.requires in
    omega (arith, lt, count)
