-- What a settler holds, as it begins, and as it goes over from packed runs to plain functions.
use Rattle.std.proofs.Common.{◌≡◌, ◌<◌, ◌*◌, ◌∙◌, ℕ, suc, Bool, List, [], Option, Some, None, ap, sym, subst, arith, length, get_or, false, true}
use Rattle.std.specs.Prelude.{All, slice_get}
use Rattle.cu_arrival.specs.declared.runs.Run.{Run}
use Rattle.cu_model.specs.declared.roads.Edit.{Edit}
use Rattle.cu_model.proofs.RoadLaws.{all_at}
use Rattle.cu_chordal.specs.declared.graph.Ends.{Ends}
use Rattle.cu_chordal.specs.Graphs.{ChordalValue}
use Rattle.cu_chordal.proofs.Members.{all_from_members, none_in_nil}
use Rattle.std.proofs.lemmas.Option.{slice_get-get_or, slice_get_within}
use Rattle.cu_interval.specs.declared.ways.TouchedEdge.{TouchedEdge}
use Rattle.cu_interval.specs.EdgeArcs.{AreEdgeArcs}
use Rattle.cu_interval.specs.Hierarchies.{HierarchyValue, IsHierarchyOf, list_number}
use Rattle.cu_interval.proofs.EndsLaws.{number_within}
use Rattle.cu_unpack.specs.RebuiltRuns.{IsSized, PackedValue}
use Rattle.cu_edits.specs.Settling.{IsSettled, SettlingValue}
use Rattle.cu_edits.specs.Learned.{ArePackedOf}
use Rattle.cu_edits.specs.Steps.Packed.{IsSettlingPacked}
use Rattle.cu_edits.specs.Steps.SettlerStates.{IsSettlingNone}
use Rattle.cu_edits.specs.Steps.Moving.{MovedValue}
use Rattle.cu_edits.specs.Steps.Parts.{AreParts}
use Rattle.cu_edits.specs.Steps.Settled.{AreSettled}
use Rattle.cu_edits.proofs.Replaced.{number_among}
use Rattle.cu_edits.proofs.SettledFrames.{settled_none}
use Rattle.cu_edits.proofs.StandingLists.{stands_none}
use Rattle.cu_edits.specs.Lists.{AreInRange, AreSound}

-- before an edge is settled nothing is
pub parts_of : (h : HierarchyValue) (graph : ChordalValue) (edit : List Edit) (arcs : List (List ℕ)) → IsHierarchyOf graph h → AreEdgeArcs h.network h.order graph.edges arcs
    → AreInRange h.network edit → AreSound edit → AreParts h edit graph arcs
parts_of h graph edit arcs of roads range pieces = record {
  hierarchy = of;
  roads = subst (λ (es : List Ends). AreEdgeArcs h.network h.order es arcs) (ap (λ (k : ChordalValue). k.edges) of.0) roads;
  range = range;
  pieces = pieces;
}

pub no_edge : (s : SettlingValue) → s.settled ≡ [] → (edge : ℕ) → IsSettled s edge → ⊥
no_edge s none edge c = none_in_nil edge (subst (λ (xs : List TouchedEdge). IsSettled (record s { settled = xs }) edge) none c)

unknown_list : (known : List Bool) (number : ℕ) → All (λ (b : Bool). b ≡ false) known → slice_get known number ≡ Some true → ⊥
unknown_list known number none at = let is = all_at (λ (b : Bool). b ≡ false) known number true none at in cc is

-- of no list is a function known
pub no_packed : (h : HierarchyValue) (packed : PackedValue) → IsSized (length h.edges) packed → All (λ (b : Bool). b ≡ false) packed.known
    → All (λ (f : Option (List Run)). f ≡ None) packed.functions → ArePackedOf h packed
no_packed h packed size unknown none = record {
  size = size;
  keeps = λ e dir own known. absurd (unknown_list packed.known (list_number e dir) unknown known);
  unknown = λ n at.
      let inside = slice_get_within packed.known n false at in
      let one = size.known in
      let two = size.functions in
      let there : slice_get packed.functions n ≡ Some (get_or packed.functions n None) = slice_get-get_or packed.functions n None (omega (arith, inside, one, two)) in
      there ∙ ap Some (none n None (omega (arith, inside, one, two)));
}

-- packed runs of the hierarchy before are held where no edge was settled
pub holds_packed : (s : SettlingValue) (graph : ChordalValue) (arcs : List (List ℕ)) (edges : ℕ) (packed : PackedValue) (moved : MovedValue) → edges ≡ length graph.edges → IsSettlingNone s graph arcs
    → ArePackedOf s.before packed → length moved.places ≡ 2 * edges
    → All (λ (place : ℕ). place ≡ 0) moved.places → IsSettlingPacked s graph arcs packed moved
holds_packed s graph arcs edges packed moved count old known long zeros =
    let same : edges ≡ length s.before.edges = count ∙ ap (λ (k : ChordalValue). length k.edges) old.parts.hierarchy.0 in
    let are = subst (λ (xs : List TouchedEdge). AreSettled (record s { settled = xs })) (sym old.none) (settled_none s.before s.edit old.parts.hierarchy.1) in
    let places : length moved.places ≡ 2 * length s.before.edges = omega (arith, long, same) in
    record {
      are = are;
      parts = old.parts;
      known = known;
      places = places;
      inside = λ k d lt. let zero = zeros k d lt in omega (arith, zero);
      stands = stands_none s are moved old.none (λ e dir ends at.
          let inside = number_within e (length s.before.edges) dir (slice_get_within s.before.edges e ends at) in
          slice_get-get_or moved.places (list_number e dir) 0 (omega (arith, inside, places)) ∙ ap Some (zeros (list_number e dir) 0 (omega (arith, inside, places)))) (no_edge s old.none);
      moves = λ e dir function (place, at, there). let zero = all_at (λ (k : ℕ). k ≡ 0) moved.places (list_number e dir) (suc place) zeros at in absurd (cc zero);
    }

-- the edges settled are the graph's
pub settled_inside : (s : SettlingValue) (graph : ChordalValue) (arcs : List (List ℕ)) (packed : PackedValue) (moved : MovedValue) → IsSettlingPacked s graph arcs packed moved
    → All (λ (t : TouchedEdge). t.edge < length graph.edges) s.settled
settled_inside s graph arcs packed moved old =
    let long : length graph.edges ≡ length s.before.edges = ap (λ (k : ChordalValue). length k.edges) old.parts.hierarchy.0 in
    all_from_members (λ (t : TouchedEdge). t.edge < length graph.edges) s.settled (λ t among.
    let (ends, at, is) = old.are.touched t.edge (number_among s.settled t among) in
    let inside = slice_get_within s.before.edges t.edge ends at in
    omega (arith, inside, long))
