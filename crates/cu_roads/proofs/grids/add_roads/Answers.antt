use Rattle.std.proofs.lemmas.Result.{on_ok_weaker}
use Rattle.cu_roads.proofs.DrawnGrids.{adds_then}
use Rattle.cu_roads.proofs.grids.add_roads.Goals as goal

pub returns : goal.returns
returns c = on_ok_weaker c.add_roads_to-2.result (adds_then _ _ _ _ _ _ _ _ c.in_ok-add_roads_to.ensures) c.add_roads_to-2.ensures
