use Rattle.std.proofs.Common.{◌≡◌, Some, ap, refl, subst, sym}
use Rattle.std.specs.Prelude.{slice_get}
use Rattle.std.proofs.lemmas.Result.{IfOk-weaker}
use Rattle.cu_chordal.specs.Graphs.{ChordalValue}
use Rattle.cu_model.specs.Networks.{NetworkValue}
use Rattle.cu_edits.proofs.FoundLaws.{found_road}
use Rattle.cu_edits.proofs.finding.find_road.Goals as goal

pub returns-clause-added : goal.returns-clause-added
returns-clause-added g c =
    let h = g.W.Ways.hierarchy c.args.ways.now in
    let road = c.arc-road.result in
    let at = subst (λ (n : NetworkValue). slice_get n.arcs c.args.arc ≡ Some road) (sym (g.met.W.Ways.same_network c.args.ways.now)) c.arc-road.ensures.there in
    let edges = ap (λ (k : ChordalValue). k.edges) c.requires.graph.0 in
    IfOk-weaker c.find_between.result _ _
    (λ _ one. found_road h c.args.graph.now.edges c.args.arc c.rank.result c.rank-2.result c.args.found.now.found c.find_between.new.found.found edges
    (road.tail, road.head, (road, at, refl, refl), c.rank.ensures.there, c.rank-2.ensures.there) one)
    c.find_between.ensures.added
