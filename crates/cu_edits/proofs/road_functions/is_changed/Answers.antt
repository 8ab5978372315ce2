use Rattle.cu_edits.proofs.ChangedRoads.{decides_assign, decides_set}
use Rattle.cu_edits.proofs.road_functions.is_changed.Goals as goal

pub returns-in-Set : goal.returns-in-Set
returns-in-Set g c = decides_set (g.R.Roads.network c.args.roads.now) c.args.arc c.in-Set.profile _ c.arc.result c.args.edit.now c.in-Set.is c.arc.ensures.there

pub returns-in-Assign : goal.returns-in-Assign
returns-in-Assign g c = decides_assign (g.R.Roads.network c.args.roads.now) c.args.arc c.in-Assign.changed _ c.args.edit.now c.in-Assign.is
