use Rattle.std.proofs.Common.{◌∙◌, ap, length, subst, sym}
use Rattle.cu_chordal.specs.Edges.{IsClosureOf}
use Rattle.cu_chordal.specs.Graphs.{ChordalValue}
use Rattle.std.specs.Prelude.{IfOk}
use Rattle.cu_interval.specs.EdgeArcs.{AreEdgeArcs}
use Rattle.cu_model.specs.Orders.{OrderValue}
use Rattle.cu_router.proofs.RoomLaws.{closed_graph}
use Rattle.cu_router.proofs.edit_room.arcs_of.Goals as goal

pub of-requires-clause-same : goal.of-requires-clause-same
of-requires-clause-same c = ap (λ (o : OrderValue). length o.node_at) c.in_ok-order.ensures.same ∙ c.requires.sound.same

pub of-requires-clause-graph : goal.of-requires-clause-graph
of-requires-clause-graph c =
    let h = c.args.view.now in
    subst (λ (o : OrderValue). IsClosureOf h.network o c.args.graph.now) (sym c.in_ok-order.ensures.same)
    (subst (IsClosureOf h.network h.order) (sym c.requires.graph) (closed_graph h c.requires.sound))

pub returns : goal.returns
returns c =
    let h = c.args.view.now in
    let ordered = subst (λ (o : OrderValue). IfOk c.of.result (AreEdgeArcs h.network o c.args.graph.now.edges)) c.in_ok-order.ensures.same c.of.ensures in
    record { listed = subst (λ (g : ChordalValue). IfOk c.of.result (AreEdgeArcs h.network h.order g.edges)) c.requires.graph ordered }
