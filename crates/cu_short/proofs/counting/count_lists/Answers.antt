use Rattle.std.proofs.Common.{◌≡◌, ◌+◌, ◌*◌, arith, length, subst}
use Rattle.cu_interval.specs.Hierarchies.{HierarchyValue}
use Rattle.cu_short.specs.Steps.Counted.{AreFirstCounts, CountsOn}
use Rattle.cu_short.proofs.Turns.{first_all}
use Rattle.cu_short.proofs.counting.count_lists.Goals as goal

pub loop-edge-preserved : goal.loop-edge-preserved
loop-edge-preserved g c =
    let h : HierarchyValue = g.W.Ways.hierarchy c.args.ways.now in
    let items = c.count_list-in-loop-edge.new.counts.items in
    let edge = c.loop-edge.edge in
    let finder = c.count_list-in-loop-edge.ensures.finder in
    let turn = finder.turn in
    let more : AreFirstCounts h items (2 * edge + 1 + 1) = subst (CountsOn h items (2 * edge + 1 + 1)) c.if-not-branch-2.false c.in_ok-count_list-2.ensures.counted in
    let next : 2 * edge + 1 + 1 ≡ 2 * (edge + 1) = omega arith in
    record { first = subst (AreFirstCounts h items) next more; finder = record { same = finder.same; turn = omega (arith, turn) } }

pub returns : goal.returns
returns g c =
    let h : HierarchyValue = g.W.Ways.hierarchy c.args.ways.now in
    let all : 2 * c.loop-edge.edge ≡ 2 * length h.edges =
    omega (arith, c.loop-edge-test.false, c.loop-edge.auto.edge-end, c.edges-edge-end.ensures.count) in
    record { counted = first_all h c.loop-edge.counts.items (2 * c.loop-edge.edge) all c.loop-edge.invariant.first }
