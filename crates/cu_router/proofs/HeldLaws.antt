-- A held file: its packed bytes spell one hierarchy, and what stands beside them stays fit for the hierarchy after an edit.
use Rattle.std.proofs.Common.{◌≡◌, ◌<◌, ◌∙◌, ℕ, Bool, true, false, List, [], ◌∷◌, Option, length, get_or, map, refl, sym, ap, subst, arith, All}
use Rattle.std.specs.Prelude.{slice_set}
use Rattle.std.proofs.lemmas.List.{get_or-map, length-map, length-set}
use Rattle.std.proofs.lemmas.List.Elements.{Contains-get_or}
use Rattle.std.proofs.lemmas.Option.{slice_get_within}
use Rattle.cu_model.specs.declared.roads.Edit.{Edit}
use Rattle.cu_model.specs.Networks.{NetworkValue}
use Rattle.cu_chordal.specs.declared.graph.Ends.{Ends}
use Rattle.cu_chordal.specs.Graphs.{ChordalValue}
use Rattle.cu_elimtree.specs.SweepArcs.{parents_in}
use Rattle.cu_edits.specs.Customized.{AreCustomized, marked}
use Rattle.cu_edits.specs.Settling.{numbers_of}
use Rattle.cu_edits.proofs.EditCustomized.{edit_customized}
use Rattle.cu_interval.specs.declared.ways.TouchedEdge.{TouchedEdge}
use Rattle.cu_interval.specs.Hierarchies.{HierarchyValue, IsBuilt, IsHierarchy, graph_of}
use Rattle.cu_resettled.specs.ResettlingAll.{IsResettledAll, NumbersTouchedBySome, hierarchy_with_all}
use Rattle.cu_pack.specs.Checks.{Spells, sealed}
use Rattle.cu_pack.specs.Reading.{decoded}
use Rattle.cu_pack.proofs.Spelled.Again.{read_again, same_hierarchy}
use Rattle.cu_pack.proofs.Read.Bodies.{spelled_sealed}
use Rattle.cu_pack.proofs.Viewed.Views.{said_again}
use Rattle.cu_router.specs.Changes.{IsChange, KnowsCustomized}
use Rattle.cu_router.specs.declared.held_file.Known.{Known}
use Rattle.cu_router.specs.declared.held_file.Known.TheVariants.{Built, Short, Nothing}
use Rattle.cu_router.specs.Steps.Holding.{HoldsFile, IsKnown, IsKnownBut}
use Rattle.cu_router.proofs.RoadsStay.{counts_stay}
use Rattle.cu_resettled.proofs.ResettledBuilt.{all_built}
use Rattle.cu_resettled.proofs.ResettledThere.{nodes_all}

-- bytes say the hierarchy that they spell
pub decoded_is : (bytes : List ℕ) (h : HierarchyValue) → Spells bytes h → decoded bytes ≡ h
decoded_is bytes h spells = ap decoded spells.spelled ∙ read_again h spells.sound

-- a packed file has its digest
pub sealed_spells : (bytes : List ℕ) (h : HierarchyValue) → Spells bytes h → Spells (sealed bytes) h
sealed_spells bytes h spells = subst (λ (bs : List ℕ). Spells bs h) (sym (spelled_sealed bytes h spells)) spells

-- and says the hierarchy that it is the file of
pub spells_sealed : (bytes : List ℕ) (h : HierarchyValue) → Spells bytes h → Spells bytes (decoded (sealed bytes))
spells_sealed bytes h spells =
    subst (λ (bs : List ℕ). Spells bs (decoded (sealed bytes))) (spelled_sealed bytes h spells) (said_again (sealed bytes) h (sealed_spells bytes h spells))

-- marks for as many edges as a packed file has
pub knows_of : (bytes : List ℕ) (view h : HierarchyValue) (marks : List Bool) → Spells bytes view → Spells bytes h → length marks ≡ length view.edges
    → AreCustomized h marks → KnowsCustomized h marks
knows_of bytes view h marks here spells long customized = record {
  long = long ∙ ap (λ (g : HierarchyValue). length g.edges) (same_hierarchy bytes view h here spells);
  customized = customized;
}

-- what stands beside a hierarchy stands beside the one that its packed bytes say, with its digest or without
pub held_new : (bytes : List ℕ) (h : HierarchyValue) (has_digest : Bool) (graph : ChordalValue) (parents : List (Option ℕ)) (marks : List Bool)
    → HoldsFile h bytes has_digest graph parents marks → HoldsFile (decoded (sealed bytes)) bytes has_digest graph parents marks
held_new bytes h has_digest graph parents marks holds =
    subst (λ (g : HierarchyValue). HoldsFile g bytes has_digest graph parents marks) (sym (decoded_is (sealed bytes) h holds.spelled)) holds

-- an edit leaves nodes and edges
module _ (old new : HierarchyValue) (edits : List Edit) (resettled : IsResettledAll old edits new) where
  pub nodes_same : new.network.nodes ≡ old.network.nodes
  nodes_same = ap (λ (g : NetworkValue). g.nodes) resettled.network ∙ nodes_all old.network edits

  pub edges_same : length new.edges ≡ length old.edges
  edges_same = ap (λ (es : List Ends). length es) resettled.edges

  pub graph_same : graph_of new ≡ graph_of old
  graph_same =
      let of : ℕ → List Ends → ChordalValue = λ nodes edges. record { ranks = nodes; edges = edges } in
      ap (λ n. of n new.edges) nodes_same ∙ ap (of old.network.nodes) resettled.edges

-- as many edges have a mark after an edit
marked_long : (marks : List Bool) (lists : List TouchedEdge) → length (marked marks lists) ≡ length marks
marked_long marks [] = refl
marked_long marks (touched ∷ lists) = marked_long (slice_set marks touched.edge true) lists ∙ length-set marks touched.edge true

-- an edge that is known to be customized is so after an edit, and so are those that the edit touched
pub knows_after : (old : HierarchyValue) (edits : List Edit) (lists : List TouchedEdge) (marks : List Bool) → IsHierarchy old → IsResettledAll old edits (hierarchy_with_all old edits lists)
    → NumbersTouchedBySome old edits (numbers_of lists) → KnowsCustomized old marks → KnowsCustomized (hierarchy_with_all old edits lists) (marked marks lists)
knows_after old edits lists marks sound resettled numbers knows = record {
  long = marked_long marks lists ∙ knows.long ∙ sym (edges_same old (hierarchy_with_all old edits lists) edits resettled);
  customized = edit_customized old edits lists marks sound resettled numbers knows.customized;
}

-- touched edges are below the number of edges
pub touched_below : (h : HierarchyValue) (edits : List Edit) (lists : List TouchedEdge) → NumbersTouchedBySome h edits (numbers_of lists)
    → All (λ (touched : TouchedEdge). touched.edge < length h.edges) lists
touched_below h edits lists numbers k d lt =
    let number : TouchedEdge → ℕ = λ touched. touched.edge in
    let has = Contains-get_or (map number lists) k 0 (omega (arith, lt, length-map lists number)) in
    let here : get_or (map number lists) k 0 ≡ number (get_or lists k d) = get_or-map number lists k d 0 lt in
    let (ends, at, is) = (numbers.exact (get_or (map number lists) k 0)).0 has in
    subst (λ (edge : ℕ). edge < length h.edges) here (slice_get_within h.edges _ ends at)

-- an edit leaves the edges as they are
pub edges_stay : (old : HierarchyValue) (bytes : List ℕ) (lists : List TouchedEdge) → IsChange old bytes lists
    → length old.edges ≡ length (decoded (sealed bytes)).edges
edges_stay old bytes lists change = sym (ap (λ (h : HierarchyValue). length h.edges) (decoded_is (sealed bytes) _ change.spelled))

-- what is held after a change
pub changed_over : (old : HierarchyValue) (before bytes : List ℕ) (had : Bool) (graph : ChordalValue) (parents : List (Option ℕ)) (marks : List Bool) (lists : List TouchedEdge)
    → HoldsFile old before had graph parents marks → IsChange old bytes lists → HoldsFile (decoded (sealed bytes)) bytes false graph parents (marked marks lists)
changed_over old before bytes had graph parents marks lists holds change =
    let new = hierarchy_with_all old change.edits lists in
    let same = sym (graph_same old new change.edits change.resettled) in
    held_new bytes new false graph parents (marked marks lists) (record {
      spelled = change.spelled;
      digest = λ is. absurd (cc is);
      chordal = holds.chordal ∙ same;
      tree = holds.tree ∙ ap parents_in same;
      knows = knows_after old change.edits lists marks holds.spelled.sound change.resettled change.touched holds.knows;
    })

known_but : (known : Known) (old : HierarchyValue) (edits : List Edit) (lists : List TouchedEdge) → (IsBuilt old → IsBuilt (hierarchy_with_all old edits lists)) → IsHierarchy old
    → NumbersTouchedBySome old edits (numbers_of lists) → IsKnown old known → IsKnownBut (hierarchy_with_all old edits lists) known (numbers_of lists)
known_but Built old edits lists again sound touched is = again is
known_but (Short roads) old edits lists again sound touched is = counts_stay old sound edits lists touched roads is
known_but Nothing old edits lists again sound touched is = tt

-- what is known of the walks is so after a change, but for the lists that it resettled: a built hierarchy is built again
pub known_over : (old : HierarchyValue) (bytes : List ℕ) (lists : List TouchedEdge) (known : Known) → IsHierarchy old → IsChange old bytes lists → IsKnown old known
    → IsKnownBut (decoded (sealed bytes)) known (numbers_of lists)
known_over old bytes lists known sound change is =
    let new = hierarchy_with_all old change.edits lists in
    subst (λ (h : HierarchyValue). IsKnownBut h known (numbers_of lists)) (sym (decoded_is (sealed bytes) new change.spelled))
    (known_but known old change.edits lists (λ built. all_built old new change.edits built change.spelled.sound change.resettled) sound change.touched is)

-- the edges of a change are edges of the hierarchy after it
pub change_below : (old : HierarchyValue) (bytes : List ℕ) (lists : List TouchedEdge) → IsChange old bytes lists
    → All (λ (touched : TouchedEdge). touched.edge < length (decoded (sealed bytes)).edges) lists
change_below old bytes lists change =
    subst (λ (h : HierarchyValue). All (λ (touched : TouchedEdge). touched.edge < length h.edges) lists)
    (sym (decoded_is (sealed bytes) (hierarchy_with_all old change.edits lists) change.spelled))
    (touched_below old change.edits lists change.touched)
