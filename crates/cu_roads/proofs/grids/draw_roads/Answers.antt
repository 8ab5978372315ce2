use Rattle.std.proofs.Common.{◌≡◌, ◌*◌, [], arith}
use Rattle.cu_roads.specs.Grids.{ends_of_node, grid_ends}
use Rattle.cu_roads.proofs.DrawnGrids.{adds_none, adds_then, flat_more}
use Rattle.cu_roads.proofs.grids.draw_roads.Goals as goal

pub loop-node-init : goal.loop-node-init
loop-node-init c = rw c.new-roads.ensures.items (adds_none [] c.args.draws.now)

pub loop-node-preserved : goal.loop-node-preserved
loop-node-preserved c =
    rw (flat_more (ends_of_node c.args.width c.args.height) c.loop-node.node)
    (adds_then _ _ _ _ _ _ _ _ c.loop-node.invariant c.in_ok-add_roads.ensures)

pub returns-clause-roads : goal.returns-clause-roads
unfolding grid_ends
returns-clause-roads c = let whole : c.loop-node.node ≡ c.args.width * c.args.height = omega arith in rw whole at c.loop-node.invariant.roads

pub returns-clause-state : goal.returns-clause-state
unfolding grid_ends
returns-clause-state c = let whole : c.loop-node.node ≡ c.args.width * c.args.height = omega arith in rw whole at c.loop-node.invariant.state
