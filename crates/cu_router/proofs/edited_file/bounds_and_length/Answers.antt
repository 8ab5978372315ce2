use Rattle.std.proofs.Common.{◌<◌, ◌∙◌, length, ap, subst, sym, All}
use Rattle.cu_interval.specs.declared.ways.TouchedEdge.{TouchedEdge}
use Rattle.cu_interval.specs.Hierarchies.{HierarchyValue, IsHierarchy}
use Rattle.cu_model.specs.Networks.{IsNetwork, NetworkValue}
use Rattle.cu_resettled.specs.ResettlingAll.{edited_all, hierarchy_with_all}
use Rattle.cu_resettled.proofs.ResettledThere.{nodes_all}
use Rattle.cu_edits.specs.Together.{FitEdits, edits_of}
use Rattle.cu_edits.proofs.BoundsStay.{untouched_bound}
use Rattle.cu_pack.specs.Repacking.{KeepsOtherBounds, with_roads}
use Rattle.cu_router.proofs.HeldLaws.{touched_below}
use Rattle.cu_router.proofs.edited_file.bounds_and_length.Goals as goal

pub of-roads-requires-clause-fits : goal.of-roads-requires-clause-fits
of-roads-requires-clause-fits c = subst (λ (h : HierarchyValue). FitEdits h.network c.args.edits) (sym c.view-view.ensures.same) c.requires.edits

pub of-roads-requires-clause-sound : goal.of-roads-requires-clause-sound
of-roads-requires-clause-sound c =
    subst (λ (h : HierarchyValue). IsNetwork (edited_all h.network (edits_of c.args.edits))) (sym c.view-view.ensures.same) c.requires.sound.network

pub bounds_after-requires-clause-nodes : goal.bounds_after-requires-clause-nodes
bounds_after-requires-clause-nodes c =
    ap (λ (n : NetworkValue). n.nodes) c.of-roads.ensures ∙ nodes_all c.view-view.result.network (edits_of c.args.edits)

pub bounds_after-requires-clause-edges : goal.bounds_after-requires-clause-edges
bounds_after-requires-clause-edges c =
    subst (λ (h : HierarchyValue). All (λ (touched : TouchedEdge). touched.edge < length h.edges) c.args.lists.now) (sym c.view-view.ensures.same)
    (touched_below c.args.held.now (edits_of c.args.edits) c.args.lists.now c.requires.touched)

pub bounds_after-requires-clause-sound : goal.bounds_after-requires-clause-sound
bounds_after-requires-clause-sound c =
    subst (λ (n : NetworkValue). IsHierarchy (with_roads c.view-view.result n c.args.lists.now)) (sym c.of-roads.ensures)
    (subst (λ (h : HierarchyValue). IsHierarchy (hierarchy_with_all h (edits_of c.args.edits) c.args.lists.now)) (sym c.view-view.ensures.same) c.requires.sound)

pub of-requires-clause-nodes : goal.of-requires-clause-nodes
of-requires-clause-nodes c =
    ap (λ (n : NetworkValue). n.nodes) c.of-roads.ensures ∙ nodes_all c.view-view.result.network (edits_of c.args.edits)

pub of-requires-clause-edges : goal.of-requires-clause-edges
of-requires-clause-edges c =
    subst (λ (h : HierarchyValue). All (λ (touched : TouchedEdge). touched.edge < length h.edges) c.args.lists.now) (sym c.view-view.ensures.same)
    (touched_below c.args.held.now (edits_of c.args.edits) c.args.lists.now c.requires.touched)

pub of-requires-clause-sound : goal.of-requires-clause-sound
of-requires-clause-sound c =
    subst (λ (n : NetworkValue). IsHierarchy (with_roads c.view-view.result n c.args.lists.now)) (sym c.of-roads.ensures)
    (subst (λ (h : HierarchyValue). IsHierarchy (hierarchy_with_all h (edits_of c.args.edits) c.args.lists.now)) (sym c.view-view.ensures.same) c.requires.sound)

pub bounds_after-requires-clause-stays : goal.bounds_after-requires-clause-stays
bounds_after-requires-clause-stays c =
    let edits = edits_of c.args.edits in
    let lists = c.args.lists.now in
    subst (λ (n : NetworkValue). KeepsOtherBounds c.view-view.result n lists) (sym c.of-roads.ensures)
    (subst (λ (h : HierarchyValue). KeepsOtherBounds h (edited_all h.network edits) lists) (sym c.view-view.ensures.same)
    (untouched_bound c.args.held.now c.view-view.ensures.sound edits lists c.requires.touched))
