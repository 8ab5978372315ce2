use Rattle.std.proofs.Common.{◌≡◌, ◌*◌, arith, length}
use Rattle.cu_interval.specs.Hierarchies.{HierarchyValue}
use Rattle.cu_bounds.proofs.Turns.{first_all}
use Rattle.cu_bounds.proofs.finding.least_bounds.Goals as goal

pub returns : goal.returns
returns g c =
    let h : HierarchyValue = g.W.Ways.hierarchy c.args.ways.now in
    let all : 2 * c.loop-edge.edge ≡ 2 * length h.edges =
    omega (arith, c.loop-edge-test.false, c.loop-edge.auto.edge-end, c.edges-edge-end.ensures.count) in
    record { bounds = first_all h c.loop-edge.bounds.items (2 * c.loop-edge.edge) all c.loop-edge.invariant }
