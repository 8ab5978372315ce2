use Rattle.std.proofs.Common.{refl, arith, rules}
use Rattle.cu_model.specs.Networks.{NetworkValue}
use Rattle.cu_model.proofs.RoadLaws.{head_below, tail_below}
use Rattle.cu_chordal.specs.Edges.{LinksRanks}
use Rattle.cu_interval.proofs.ArcLists.{down_none, finds_few, up_none}
use Rattle.cu_interval.proofs.edge_arcs.list_of_arc.Goals as goal

pub rank-tail-requires : goal.rank-tail-requires
rank-tail-requires g c =
    let lt = tail_below (g.N.Roads.network c.args.roads.now) c.arc-road.ensures.sound c.args.arc c.arc-road.result c.arc-road.ensures.there in
    omega (arith, lt, c.requires.same, c.requires.ordered.same)

pub rank-head-requires : goal.rank-head-requires
rank-head-requires g c =
    let lt = head_below (g.N.Roads.network c.args.roads.now) c.arc-road.ensures.sound c.args.arc c.arc-road.result c.arc-road.ensures.there in
    omega (arith, lt, c.requires.same, c.requires.ordered.same)

pub returns-in_default : goal.returns-in_default
returns-in_default g c =
    let net : NetworkValue = g.N.Roads.network c.args.roads.now in
    let links : LinksRanks net c.args.order.now c.args.arc c.rank-tail.result c.rank-head.result =
    (c.arc-road.result.tail, c.arc-road.result.head, (c.arc-road.result, c.arc-road.ensures.there, refl, refl), c.rank-tail.ensures.there, c.rank-head.ensures.there) in
    up_none net c.args.order.now c.args.graph.now c.requires.graph c.args.arc c.rank-tail.result c.rank-head.result links c.if-tail-head.true c.edge.result c.edge.ensures.found (search rules)

pub overflow_mul-result : goal.overflow_mul-result
overflow_mul-result g c =
    let few = finds_few c.args.graph.now c.requires.chordal c.rank-tail.result c.rank-head.result c.in-Some.edge c.edge.result c.edge.ensures.found c.in-Some.is in
    omega (arith, few)

pub returns-in_default-edge : goal.returns-in_default-edge
returns-in_default-edge g c =
    let net : NetworkValue = g.N.Roads.network c.args.roads.now in
    let links : LinksRanks net c.args.order.now c.args.arc c.rank-tail.result c.rank-head.result =
    (c.arc-road.result.tail, c.arc-road.result.head, (c.arc-road.result, c.arc-road.ensures.there, refl, refl), c.rank-tail.ensures.there, c.rank-head.ensures.there) in
    down_none net c.args.order.now c.args.graph.now c.requires.graph c.args.arc c.rank-tail.result c.rank-head.result links
    (omega (arith, c.if-tail-head.false)) c.edge-2.result c.edge-2.ensures.found (search rules)

pub overflow_mul-result-2 : goal.overflow_mul-result-2
overflow_mul-result-2 g c =
    let few = finds_few c.args.graph.now c.requires.chordal c.rank-head.result c.rank-tail.result c.in-Some-edge.edge c.edge-2.result c.edge-2.ensures.found c.in-Some-edge.is in
    omega (arith, few)

pub overflow_add-result : goal.overflow_add-result
overflow_add-result g c =
    let few = finds_few c.args.graph.now c.requires.chordal c.rank-head.result c.rank-tail.result c.in-Some-edge.edge c.edge-2.result c.edge-2.ensures.found c.in-Some-edge.is in
    omega (arith, few)
