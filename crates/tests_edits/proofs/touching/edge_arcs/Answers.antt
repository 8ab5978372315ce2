use Rattle.std.proofs.Common.{◌∙◌, ap, length, refl, subst, sym}
use Rattle.cu_model.specs.Orders.{OrderValue}
use Rattle.cu_chordal.specs.Edges.{IsClosureOf}
use Rattle.cu_chordal.specs.Graphs.{ChordalValue}
use Rattle.tests_edits.proofs.touching.edge_arcs.Goals as goal

pub of-requires-clause-same : goal.of-requires-clause-same
of-requires-clause-same c = ap (λ (o : OrderValue). length o.node_at) c.order.ensures ∙ c.edges-edges.ensures.sound.same

pub of-requires-clause-graph : goal.of-requires-clause-graph
of-requires-clause-graph c =
    let h = c.args.hierarchy.now in
    subst (λ (o : OrderValue). IsClosureOf h.network o c.graph-graph.result.now) (sym c.order.ensures)
    (subst (λ (graph : ChordalValue). IsClosureOf h.network h.order graph) (sym c.graph-graph.ensures) (record { ranks = refl; edges = c.edges-edges.ensures.sound.edges }))
