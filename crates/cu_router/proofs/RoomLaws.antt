-- The rooms beside a held file fit the hierarchy after an edit.
use Rattle.std.proofs.Common.{◌≡◌, ◌∙◌, ℕ, List, None, Option, length, refl, sym, subst, arith}
use Rattle.std.specs.Prelude.{IfOk, IfSome, Result, Ok, Err}
use Rattle.std.proofs.lemmas.List.{length-map}
use Rattle.cu_model.specs.declared.roads.Edit.{Edit}
use Rattle.cu_model.specs.Edits.{IsEditInRange}
use Rattle.cu_model.specs.Networks.{NetworkValue}
use Rattle.cu_model.specs.Orders.{OrderValue}
use Rattle.cu_chordal.specs.declared.graph.Ends.{Ends}
use Rattle.cu_chordal.specs.Edges.{IsClosureOf}
use Rattle.cu_edits.specs.Learned.{ArePackedOf}
use Rattle.cu_edits.specs.Settling.{numbers_of}
use Rattle.cu_interval.specs.declared.ways.TouchedEdge.{TouchedEdge}
use Rattle.cu_interval.specs.EdgeArcs.{AreArcsFrom, AreEdgeArcs}
use Rattle.cu_interval.specs.Hierarchies.{HierarchyValue, IsHierarchy, graph_of}
use Rattle.cu_interval.specs.Replacing.{hierarchy_with}
use Rattle.cu_interval.specs.Resettling.{IsResettled}
use Rattle.cu_interval.specs.Touching.{NumbersTouched}
use Rattle.cu_links.specs.Buckets.{BucketsValue}
use Rattle.cu_recall.specs.Downs.{KnowsDowns}
use Rattle.cu_recall.specs.Rooms.{Fits, RoomValue}
use Rattle.cu_recall.specs.Spans.{Knows}
use Rattle.cu_unpack.specs.RebuiltRuns.{PackedValue}
use Rattle.cu_router.specs.declared.edit_room.EditRoom.{EditRoom}
use Rattle.cu_router.specs.Edited.{IsEdited, IsEditedAll}
use Rattle.cu_router.specs.Steps.Rooms.{HasEditRoom}
use Rattle.cu_router.proofs.HeldLaws.{edges_same, nodes_same}
use Rattle.cu_resettled.proofs.ResettledBuilt.{all_built, resettled_built}
use Rattle.cu_resettled.specs.ResettlingAll.{IsResettledAll, edited_all, hierarchy_with_all}
use Rattle.cu_resettled.proofs.TouchedBySome.{all_ranks_edited, all_ranks_kept}

-- a hierarchy's edges are the closure of its network
pub closed_graph : (h : HierarchyValue) → IsHierarchy h → IsClosureOf h.network h.order (graph_of h)
closed_graph h sound = record { ranks = refl; edges = sound.edges }

from_edited : (g : NetworkValue) (o : OrderValue) (edits : List Edit) (u v : ℕ) (arcs : List ℕ) → AreArcsFrom g o u v arcs → AreArcsFrom (edited_all g edits) o u v arcs
from_edited g o edits u v arcs are = record {
  rising = are.rising;
  exact = λ a. (λ has. all_ranks_edited g o edits a u v ((are.exact a).0 has), λ links. (are.exact a).1 (all_ranks_kept g o edits a u v links));
}

-- an edit leaves the roads of each edge
pub arcs_kept : (g : NetworkValue) (o : OrderValue) (edits : List Edit) (edges : List Ends) (lists : List (List ℕ)) → AreEdgeArcs g o edges lists → AreEdgeArcs (edited_all g edits) o edges lists
arcs_kept g o edits edges lists are = record {
  long = are.long;
  each = λ edge dir ends arcs at there. from_edited g o edits _ _ arcs (are.each edge dir ends arcs at there);
}

module _ (old new : HierarchyValue) (edits : List Edit) (resettled : IsResettledAll old edits new) where
  arcs_same : (lists : List (List ℕ)) → AreEdgeArcs old.network old.order old.edges lists → AreEdgeArcs new.network new.order new.edges lists
  arcs_same lists are =
      let moved = arcs_kept old.network old.order edits old.edges lists are in
      let network = subst (λ (g : NetworkValue). AreEdgeArcs g old.order old.edges lists) (sym resettled.network) moved in
      let order = subst (λ (o : OrderValue). AreEdgeArcs new.network o old.edges lists) (sym resettled.order) network in
      subst (λ (edges : List Ends). AreEdgeArcs new.network new.order edges lists) (sym resettled.edges) order

  -- room for edits that worked at this one
  pub edits_after : (room : EditRoom) (now : BucketsValue) (words : Option PackedValue) → HasEditRoom old room → now.ranks ≡ room.buckets.ranks → length now.states ≡ length room.buckets.states
      → IfSome words (ArePackedOf new) → HasEditRoom new (record { arcs = room.arcs; buckets = now; learned = words })
  edits_after room now words fits ranks edges learned = record {
    listed = arcs_same room.arcs fits.listed;
    ranks = ranks ∙ fits.ranks ∙ sym (nodes_same old new edits resettled);
    edges = edges ∙ fits.edges ∙ sym (edges_same old new edits resettled);
    learned = learned;
  }

  -- room for queries that knows nothing more
  pub fits_after : (before after : RoomValue) → Fits old before → after.nodes ≡ before.nodes → length after.rows ≡ length before.rows → Knows new after.rows
      → KnowsDowns new after.downs → Fits new after
  fits_after before after fits nodes lists knows downs = record {
    nodes = nodes ∙ fits.nodes ∙ sym (nodes_same old new edits resettled);
    lists = omega (arith, lists, fits.lists, edges_same old new edits resettled);
    knows = knows;
    downs = downs;
  }

-- the same where it worked, unless memory ran out
pub room_touched : {T E : Type 0} (h : HierarchyValue) (edits : List Edit) (r : Result T E) (lists : T → List TouchedEdge) (room : EditRoom) (now : BucketsValue) (words : Option PackedValue)
    → IfOk r (λ touched. IsResettledAll h edits (hierarchy_with_all h edits (lists touched))) → IfOk r (λ touched. IfSome words (ArePackedOf (hierarchy_with_all h edits (lists touched))))
    → HasEditRoom h room → now.ranks ≡ room.buckets.ranks → length now.states ≡ length room.buckets.states
    → IfOk r (λ touched. HasEditRoom (hierarchy_with_all h edits (lists touched)) (record { arcs = room.arcs; buckets = now; learned = words }))
room_touched h edits (Ok touched) lists room now words resettled learned fits ranks edges =
    edits_after h (hierarchy_with_all h edits (lists touched)) edits resettled room now words fits ranks edges learned
room_touched h edits (Err e) lists room now words resettled learned fits ranks edges = tt

-- the same where what was learned is let go of
pub room_forgotten : {T E : Type 0} (h : HierarchyValue) (edits : List Edit) (r : Result T E) (lists : T → List TouchedEdge) (room : EditRoom) (words : Option PackedValue) → words ≡ None
    → HasEditRoom h room → IfOk r (λ touched. IsResettledAll h edits (hierarchy_with_all h edits (lists touched)))
    → IfOk r (λ touched. HasEditRoom (hierarchy_with_all h edits (lists touched)) (record { arcs = room.arcs; buckets = room.buckets; learned = words }))
room_forgotten h edits (Ok touched) lists room words none fits resettled =
    edits_after h (hierarchy_with_all h edits (lists touched)) edits resettled room room.buckets words fits refl refl
    (subst (λ (o : Option PackedValue). IfSome o (ArePackedOf (hierarchy_with_all h edits (lists touched)))) (sym none) tt)
room_forgotten h edits (Err e) lists room words none fits resettled = tt

-- the edit was made, and touches so many edges
pub edit_made : (old new : HierarchyValue) (edit : Edit) (lists : List TouchedEdge) → IsHierarchy old → IsEditInRange old.network edit → NumbersTouched old edit (numbers_of lists)
    → IsResettled old edit (hierarchy_with old edit lists) → IsHierarchy (hierarchy_with old edit lists) → new ≡ hierarchy_with old edit lists → IsEdited old edit new (length lists)
edit_made old new edit lists sound range numbers resettled after same = rw same (record {
  sound = sound;
  touched = numbers_of lists;
  numbers = numbers;
  count = sym (length-map lists (λ (touched : TouchedEdge). touched.edge));
  resettled = resettled;
  after = after;
  built = λ built. resettled_built old (hierarchy_with old edit lists) edit built range after resettled;
})

-- the edits were made
pub edits_made : (old new : HierarchyValue) (edits : List Edit) (lists : List TouchedEdge) → IsHierarchy old
    → IsResettledAll old edits (hierarchy_with_all old edits lists) → IsHierarchy (hierarchy_with_all old edits lists) → new ≡ hierarchy_with_all old edits lists
    → IsEditedAll old edits new
edits_made old new edits lists sound resettled after same = rw same (record {
  sound = sound;
  resettled = resettled;
  after = after;
  built = λ built. all_built old (hierarchy_with_all old edits lists) edits built after resettled;
})
