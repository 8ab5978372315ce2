-- The bounds of lists that edits leave.
use Rattle.std.proofs.Common.{◌≡◌, ◌<◌, ◌*◌, ◌∙◌, ℕ, List, ap, length, map, All}
use Rattle.std.specs.Prelude.{slice_index}
use Rattle.std.specs.List.Sorted.{IsStrictlyIncreasing}
use Rattle.std.proofs.lemmas.Option.{get_or_from_slice_get}
use Rattle.cu_model.specs.Networks.{NetworkValue}
use Rattle.cu_interval.specs.declared.ways.TouchedEdge.{TouchedEdge}
use Rattle.cu_interval.specs.Hierarchies.{HierarchyValue, list_number}
use Rattle.cu_interval.specs.LeastBounds.{least_bound}
use Rattle.cu_bounds.specs.KeptBounds.{AreRightBut, bounds_of}
use Rattle.cu_pack.specs.Repacking.{KeepsOtherBounds, with_roads}
use Rattle.cu_pack.proofs.Numbering.PairedLists.{bound_there, bounds_count}

-- one bound for each list of a hierarchy, of which all but those of these rising edges' lists are right
pub record AreOthersRight (h : HierarchyValue) (bounds : List ℕ) (lists : List TouchedEdge) : Type 0 where
  pub rising : IsStrictlyIncreasing (map (λ (touched : TouchedEdge). touched.edge) lists)
  pub edges : All (λ (touched : TouchedEdge). touched.edge < length h.edges) lists
  pub long : length bounds ≡ 2 * length h.edges
  pub right : AreRightBut h (slice_index bounds) (map (λ (touched : TouchedEdge). touched.edge) lists)

-- the bounds of the hierarchy before are right for all other edges
pub others_right : (h : HierarchyValue) (g : NetworkValue) (lists : List TouchedEdge) (bounds : List ℕ) → bounds ≡ bounds_of h
    → IsStrictlyIncreasing (map (λ (touched : TouchedEdge). touched.edge) lists) → All (λ (touched : TouchedEdge). touched.edge < length h.edges) lists
    → KeepsOtherBounds h g lists → AreOthersRight (with_roads h g lists) bounds lists
others_right h g lists bounds all rising edges stays = record {
  rising = rising;
  edges = edges;
  long = ap length all ∙ bounds_count h;
  right = λ edge dir inside other.
      let there = get_or_from_slice_get (bounds_of h) (list_number edge dir) (least_bound h edge dir) 0 (bound_there h edge dir inside) in
      ap (λ (xs : List ℕ). slice_index xs (list_number edge dir)) all ∙ there ∙ stays edge dir inside other;
}
