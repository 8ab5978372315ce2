use Rattle.std.proofs.Common.{◌≡◌, ap, arith, length, refl}
use Rattle.std.proofs.lemmas.Option.{slice_get_within}
use Rattle.cu_chordal.specs.Graphs.{ChordalValue}
use Rattle.cu_edits.proofs.ClimbLaws.{planned_none, planned_road}
use Rattle.cu_edits.proofs.finding.plan_road.Goals as goal

pub climb-requires-clause-edge : goal.climb-requires-clause-edge
climb-requires-clause-edge g c =
    let h = g.W.Ways.hierarchy c.args.ways.now in
    let same : length c.args.graph.now.edges ≡ length h.edges = ap (λ (k : ChordalValue). length k.edges) c.requires.graph.0 in
    let (x, y, links, at) = c.in-Some.ensures in
    let inside = slice_get_within h.edges c.in-Some.edge _ at in
    omega (arith, same, inside)

pub returns-in_default : goal.returns-in_default
returns-in_default g c =
    let h = g.W.Ways.hierarchy c.args.ways.now in
    planned_none h c.requires.graph.1 c.args.arc c.args.marks.now (record { count = 0; edges = c.new-edges.result }) c.in_default.ensures c.new-edges.ensures.items refl

pub returns : goal.returns
returns g c =
    let h = g.W.Ways.hierarchy c.args.ways.now in
    let same = ap (λ (k : ChordalValue). k.edges) c.requires.graph.0 in
    planned_road h c.requires.graph.1 c.args.graph.now.edges same c.args.arc c.in-Some.edge c.args.marks.now (record { count = c.in_ok-count.count; edges = c.climb.new.edges })
    c.in-Some.ensures c.in_ok-count.ensures
