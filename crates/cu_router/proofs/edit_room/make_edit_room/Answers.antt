use Rattle.std.proofs.Common.{◌∙◌, None, ap, length, subst, sym}
use Rattle.std.proofs.lemmas.List.{length-replicate}
use Rattle.cu_interval.specs.Hierarchies.{HierarchyValue, IsHierarchy, graph_of}
use Rattle.cu_links.specs.Buckets.{BucketsValue}
use Rattle.cu_router.specs.declared.edit_room.EditRoom.{EditRoom}
use Rattle.cu_router.specs.Steps.Rooms.{HasEditRoom}
use Rattle.cu_router.proofs.edit_room.make_edit_room.Goals as goal

pub arcs_of-requires-clause-graph : goal.arcs_of-requires-clause-graph
arcs_of-requires-clause-graph c = c.graph.ensures ∙ ap graph_of (sym c.view-view.ensures.same)

pub arcs_of-requires-clause-sound : goal.arcs_of-requires-clause-sound
arcs_of-requires-clause-sound c = subst IsHierarchy (sym c.view-view.ensures.same) c.view-view.ensures.sound

pub returns : goal.returns
returns c =
    let h = c.view-view.result in
    let room : EditRoom = record { arcs = c.in_ok-arcs.arcs; buckets = c.in_ok-buckets.buckets; learned = None } in
    let fits : HasEditRoom h room = record {
      listed = c.in_ok-arcs.ensures.listed;
      ranks = ap (λ (b : BucketsValue). b.ranks) c.in_ok-buckets.ensures ∙ c.nodes.ensures.count;
      edges = ap (λ (b : BucketsValue). length b.states) c.in_ok-buckets.ensures ∙ length-replicate _ _ ∙ c.edges.ensures.count;
      learned = tt;
    } in
    record { room = subst (λ (held : HierarchyValue). HasEditRoom held room) c.view-view.ensures.same fits }
