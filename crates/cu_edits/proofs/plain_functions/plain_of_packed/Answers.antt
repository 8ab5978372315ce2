use Rattle.std.proofs.Common.{◌≡◌, ◌<◌, ◌∙◌, Some, ap, arith, length, subst, sym}
use Rattle.std.specs.Prelude.{slice_get}
use Rattle.std.proofs.lemmas.Option.{slice_get-get_or}
use Rattle.cu_chordal.specs.Graphs.{ChordalValue}
use Rattle.cu_interval.specs.declared.ways.TouchedEdge.{TouchedEdge}
use Rattle.cu_edits.proofs.TurnedPlain.{said_all, said_more, said_none}
use Rattle.cu_edits.proofs.plain_functions.plain_of_packed.Goals as goal

pub edges-init : goal.edges-init
edges-init g c =
    let h = c.args.parts.now.before in
    let edges = c.edges-edges.ensures.count in
    let graph = ap (λ (k : ChordalValue). length k.edges) c.edges-edges.ensures.fit.0.hierarchy.0 in
    let size = c.in_ok-rebuilt.ensures.size in
    let long = c.in_ok-known.ensures.long in
    record {
      size = omega (arith, size, edges, graph);
      keeps = c.in_ok-rebuilt.ensures.none h;
      said = said_none h c.args.settled.now c.args.moved.now c.in_ok-known.known.items (omega (arith, long, edges, graph)) c.in_ok-known.ensures.none;
    }

pub edges-preserved : goal.edges-preserved
edges-preserved g c =
    let h = c.args.parts.now.before in
    let settled = c.args.settled.now in
    let touched = c.touched-item.result in
    let at : slice_get settled c.edges.touched-index ≡ Some touched =
    slice_get-get_or settled c.edges.touched-index touched c.edges-test.true ∙ ap (λ (t : TouchedEdge). Some t) (sym c.touched-item.is) in
    let inside : touched.edge < length c.args.parts.now.graph.edges =
    subst (λ (t : TouchedEdge). t.edge < length c.args.parts.now.graph.edges) (sym c.touched-item.is) (c.requires.settled c.edges.touched-index touched c.edges-test.true) in
    let here = subst (λ (k : ChordalValue). touched.edge < length k.edges) c.edges-edges.ensures.fit.0.hierarchy.0 inside in
    record {
      size = c.in_ok-functions.ensures.size ∙ c.edges.invariant.size;
      keeps = c.in_ok-functions.ensures.keeps;
      said = said_more h settled c.args.moved.now c.edges.touched-index c.edges.known.items touched c.in_ok-functions.functions c.edges.invariant.said at here c.in_ok-functions.ensures.functions;
    }

pub returns : goal.returns
returns g c = record {
  size = c.edges.invariant.size;
  keeps = c.edges.invariant.keeps;
  count = c.edges.invariant.said.count;
  functions = c.edges.invariant.said.functions;
  known = said_all c.args.parts.now.before c.args.settled.now c.args.moved.now c.edges.touched-index c.edges.known.items c.edges.invariant.said
      (omega (arith, c.edges-test.false, c.edges.auto.touched-index-end));
}
