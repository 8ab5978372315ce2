-- One edge more is settled, or none where memory runs out.
use Rattle.std.proofs.Common.{◌≡◌, ◌<◌, ◌++◌, ◌∙◌, ℕ, List, [], ◌∷◌, Option, Some, ap, sym, subst, arith, length}
use Rattle.std.specs.Prelude.{slice_get, slice_set}
use Rattle.std.proofs.lemmas.Option.{slice_get_within}
use Rattle.cu_model.specs.declared.roads.Edit.{Edit}
use Rattle.cu_model.proofs.RoadLaws.{all_at}
use Rattle.cu_chordal.specs.declared.graph.Ends.{Ends}
use Rattle.cu_chordal.specs.Graphs.{ChordalValue, IsChordal}
use Rattle.cu_interval.specs.declared.ways.TouchedEdge.{TouchedEdge}
use Rattle.cu_interval.specs.Hierarchies.{HierarchyValue}
use Rattle.cu_unpack.specs.Rebuilds.{Keeps, RebuiltValue}
use Rattle.cu_edits.specs.declared.edge_functions.EdgeFunctions.{EdgeFunctions}
use Rattle.cu_edits.specs.Settling.{HasFinalSides, IsLowerSide, IsResettledEdge, IsSettled, SettlingValue, settled_so_far}
use Rattle.cu_edits.specs.Steps.Holding.{IsNext, IsSettledEdge, IsSettling, settling_of}
use Rattle.cu_edits.specs.Steps.Known.{HasFunctions, IsSide, Learns, functions_of}
use Rattle.cu_edits.proofs.EditSettling.{settling_learnt, settling_more}
use Rattle.cu_edits.proofs.SettledFrames.{settled_with}
use Rattle.cu_resettled.specs.ResettlingAll.{IsTouchedEdgeBySome, edited_all}

module _ (s : SettlingValue) (graph : ChordalValue) (arcs : List (List ℕ)) (rebuilt : RebuiltValue) (known : List (Option EdgeFunctions)) where
  -- the graph has the hierarchy's edges
  same_edges : IsSettling s graph arcs rebuilt known → graph.edges ≡ s.before.edges
  same_edges old = ap (λ (k : ChordalValue). k.edges) old.hierarchy.0

  pub next_within : (edge : ℕ) → IsSettling s graph arcs rebuilt known → IsNext s edge → edge < length graph.edges
  next_within edge old asked =
      let (ends, at, is) = asked.touched in
      let inside = slice_get_within s.before.edges edge ends at in
      let long : length graph.edges ≡ length s.before.edges = ap (λ (es : List Ends). length es) (same_edges old) in
      omega (arith, inside, long)

pub ends_within : (graph : ChordalValue) (edge : ℕ) (ends : Ends) → IsChordal graph → slice_get graph.edges edge ≡ Some ends → (ends.low < graph.ranks) × (ends.high < graph.ranks)
ends_within graph edge ends sound at =
    let (less, within) = all_at (λ (e : Ends). (e.low < e.high) × (e.high < graph.ranks)) graph.edges edge ends sound.in_range at in
    (omega (arith, less, within), within)

-- the sides over its ends are its lower sides
pub lower_sides : (edges : List Ends) (known : List (Option EdgeFunctions)) (edge : ℕ) (ends : Ends) → slice_get edges edge ≡ Some ends
    → ((side : ℕ) → IsSide edges ends side → HasFunctions known side) → (side : ℕ) → IsLowerSide edges edge side → HasFunctions known side
lower_sides edges known edge ends at has side (given, rank, there, low, high, which) =
    let same : given ≡ ends = cc (there, at) in
    has side (subst (λ (x : Ends). IsSide edges x side) same (rank, (low, high, which)))

-- nothing more was settled
pub next_none : (h : HierarchyValue) (edit : List Edit) (before after : List TouchedEdge) (graph : ChordalValue) (arcs : List (List ℕ)) (rebuilt next : RebuiltValue)
    (known learnt : List (Option EdgeFunctions)) (edge : ℕ) (ends : Ends) → IsSettling (settling_of h edit before) graph arcs rebuilt known → IsNext (settling_of h edit before) edge
    → slice_get graph.edges edge ≡ Some ends → Learns h (IsSide graph.edges ends) known learnt → length next.kept ≡ length rebuilt.kept → Keeps h next → after ≡ before
    → IsSettling (settling_of h edit after) graph arcs next learnt
next_none h edit before after graph arcs rebuilt next known learnt edge ends old asked at learns size keeps same =
    subst (λ (settled : List TouchedEdge). IsSettling (settling_of h edit settled) graph arcs next learnt) (sym same)
    (settling_learnt (settling_of h edit before) graph arcs rebuilt next known learnt edge ends old at asked.sides learns size keeps)

-- one edge more was settled
pub record IsOneMore (h : HierarchyValue) (edit : List Edit) (before after : List TouchedEdge) (graph : ChordalValue) (arcs : List (List ℕ)) (rebuilt : RebuiltValue)
    (known : List (Option EdgeFunctions)) (t : TouchedEdge) : Type 0 where
  pub list : after ≡ before ++ (t ∷ [])
  pub resettled : IsResettledEdge (settled_so_far (settling_of h edit after)) t
  pub holds : IsSettling (settling_of h edit after) graph arcs rebuilt known

pub next_one : (h : HierarchyValue) (edit : List Edit) (before after : List TouchedEdge) (graph : ChordalValue) (arcs : List (List ℕ)) (rebuilt next : RebuiltValue)
    (known learnt last : List (Option EdgeFunctions)) (edge : ℕ) (ends : Ends) (t copy : TouchedEdge) (functions : EdgeFunctions) → IsSettling (settling_of h edit before) graph arcs rebuilt known
    → IsNext (settling_of h edit before) edge → slice_get graph.edges edge ≡ Some ends → Learns h (IsSide graph.edges ends) known learnt → length next.kept ≡ length rebuilt.kept → Keeps h next
    → ((side : ℕ) → IsSide graph.edges ends side → HasFunctions learnt side)
    → IsSettledEdge graph.edges arcs (functions_of (record { network = edited_all h.network edit; known = learnt })) edge t functions → copy ≡ t → after ≡ before ++ (copy ∷ [])
    → last ≡ slice_set learnt edge (Some functions) → IsOneMore h edit before after graph arcs next last t
next_one h edit before after graph arcs rebuilt next known learnt last edge ends t copy functions old asked at learns size keeps sides settled copied pushed written =
    let s = settling_of h edit before in
    let asks = functions_of (record { network = edited_all h.network edit; known = learnt }) in
    let number : edge ≡ t.edge = sym settled.number in
    let has : (side : ℕ) → IsLowerSide graph.edges edge side → HasFunctions learnt side = lower_sides graph.edges learnt edge ends at sides in
    let held = settling_learnt s graph arcs rebuilt next known learnt edge ends old at asked.sides learns size keeps in
    let (resettled, holds) = settling_more s graph arcs next learnt t functions held
    (subst (IsTouchedEdgeBySome h edit) number asked.touched)
    (subst (λ (e : ℕ). IsSettled s e → ⊥) number asked.fresh)
    (subst (HasFinalSides s) number asked.sides)
    (subst (λ (e : ℕ). (side : ℕ) → IsLowerSide graph.edges e side → HasFunctions learnt side) number has)
    (subst (λ (e : ℕ). IsSettledEdge graph.edges arcs asks e t functions) number settled) in
    let list : after ≡ before ++ (t ∷ []) = pushed ∙ ap (λ (x : TouchedEdge). before ++ (x ∷ [])) copied in
    let ends_so : last ≡ slice_set learnt t.edge (Some functions) = written ∙ ap (λ (e : ℕ). slice_set learnt e (Some functions)) number in
    record {
      list = list;
      resettled = subst (λ (xs : List TouchedEdge). IsResettledEdge (settled_so_far (settling_of h edit xs)) t) (sym list) resettled;
      holds = subst (λ (xs : List TouchedEdge). IsSettling (settling_of h edit xs) graph arcs next last) (sym list)
          (subst (IsSettling (settled_with s t) graph arcs next) (sym ends_so) holds);
    }

-- what is asked of an edge, over a settler that stands for this
pub next_asked : (held given : SettlingValue) (edge : ℕ) → held ≡ given → IsTouchedEdgeBySome given.before given.edit edge → (IsSettled given edge → ⊥) → HasFinalSides given edge → IsNext held edge
next_asked held given edge same touched fresh sides = subst (λ (s : SettlingValue). IsNext s edge) (sym same) (record { touched = touched; fresh = fresh; sides = sides })
