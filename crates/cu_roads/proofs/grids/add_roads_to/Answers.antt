use Rattle.std.proofs.lemmas.Result.{on_ok_weaker}
use Rattle.cu_roads.proofs.DrawnGrids.{adds_none, adds_then}
use Rattle.cu_roads.proofs.grids.add_roads_to.Goals as goal

pub returns-then-not-is_there : goal.returns-then-not-is_there
returns-then-not-is_there c = rw c.if-not-is_there.true (adds_none c.args.roads.now.items c.args.draws.now)

pub returns : goal.returns
returns c = rw c.if-not-is_there.false (on_ok_weaker c.add_road-2.result (adds_then _ _ _ _ _ _ _ _ c.in_ok-add_road.ensures) c.add_road-2.ensures)
