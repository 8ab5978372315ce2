use Rattle.std.proofs.Common.{◌<◌, ◌∙◌, List, All, ap, length, subst, sym}
use Rattle.cu_edits.specs.EditLists.{FitsNetwork}
use Rattle.cu_interval.specs.declared.ways.TouchedEdge.{TouchedEdge}
use Rattle.cu_interval.specs.Hierarchies.{HierarchyValue, IsHierarchy}
use Rattle.cu_model.specs.Networks.{IsNetwork, NetworkValue}
use Rattle.cu_resettled.specs.ResettlingAll.{edited_all, hierarchy_with_all}
use Rattle.cu_resettled.proofs.ResettledThere.{nodes_all}
use Rattle.cu_pack.specs.Repacking.{with_roads}
use Rattle.cu_router.proofs.HeldLaws.{touched_below}
use Rattle.cu_router.proofs.edited_file.EditedFileContent.put_in.Goals as goal

pub of-roads-requires-clause-fits : goal.of-roads-requires-clause-fits
of-roads-requires-clause-fits g c =
    subst (λ (h : HierarchyValue). FitsNetwork h.network c.self.inside.edits) (sym c.view-view.ensures.same) c.self.invariant.fits.network

pub of-roads-requires-clause-sound : goal.of-roads-requires-clause-sound
of-roads-requires-clause-sound g c =
    subst (λ (h : HierarchyValue). IsNetwork (edited_all h.network c.self.inside.edits.edits)) (sym c.view-view.ensures.same) c.self.invariant.sound.network

pub of-file-requires-clause-nodes : goal.of-file-requires-clause-nodes
of-file-requires-clause-nodes g c = ap (λ (n : NetworkValue). n.nodes) c.of-roads.ensures ∙ nodes_all c.view-view.result.network c.self.inside.edits.edits

pub of-file-requires-clause-edges : goal.of-file-requires-clause-edges
of-file-requires-clause-edges g c =
    let h = c.self.inside.held.now in
    let edits = c.self.inside.edits.edits in
    let below = touched_below h edits c.self.inside.lists.items c.self.invariant.touched in
    subst (λ (lists : List TouchedEdge). All (λ (touched : TouchedEdge). touched.edge < length c.view-view.result.edges) lists) (sym c.as_slice.ensures.value)
    (subst (λ (k : HierarchyValue). All (λ (touched : TouchedEdge). touched.edge < length k.edges) c.self.inside.lists.items) (sym c.view-view.ensures.same) below)

pub of-file-requires-clause-sound : goal.of-file-requires-clause-sound
of-file-requires-clause-sound g c =
    let edits = c.self.inside.edits.edits in
    subst (λ (lists : List TouchedEdge). IsHierarchy (with_roads c.view-view.result c.of-roads.result lists)) (sym c.as_slice.ensures.value)
    (subst (λ (n : NetworkValue). IsHierarchy (with_roads c.view-view.result n c.self.inside.lists.items)) (sym c.of-roads.ensures)
    (subst (λ (k : HierarchyValue). IsHierarchy (hierarchy_with_all k edits c.self.inside.lists.items)) (sym c.view-view.ensures.same) c.self.invariant.sound))
