use Rattle.std.proofs.Common.{rules, ◌≡◌, Some, ap, refl, subst, sym}
use Rattle.std.specs.Prelude.{slice_get}
use Rattle.cu_chordal.specs.Graphs.{ChordalValue}
use Rattle.cu_model.specs.Networks.{NetworkValue}
use Rattle.cu_edits.proofs.ClimbLaws.{edge_of_links}
use Rattle.cu_edits.proofs.finding.edge_of_road.Goals as goal

pub returns : goal.returns
returns g c =
    let h = g.W.Ways.hierarchy c.args.ways.now in
    let road = c.arc-road.result in
    let at = subst (λ (n : NetworkValue). slice_get n.arcs c.args.arc ≡ Some road) (sym (g.met.W.Ways.same_network c.args.ways.now)) c.arc-road.ensures.there in
    let edges = ap (λ (k : ChordalValue). k.edges) c.requires.graph.0 in
    edge_of_links h c.args.graph.now.edges c.args.arc c.rank-first.result c.rank-second.result c.min.result c.max.result c.edge.result edges
    (road.tail, road.head, (road, at, refl, refl), c.rank-first.ensures.there, c.rank-second.ensures.there) (search rules) (search rules) c.edge.ensures.found
