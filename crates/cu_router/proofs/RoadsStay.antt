-- What an edit doesn't touch keeps its most roads.
use Rattle.std.proofs.Common.{◌≡◌, ◌∙◌, ℕ, zero, suc, List, [], ◌∷◌, refl, ap, arith, min}
use Rattle.std.specs.Prelude.{All}
use Rattle.cu_model.specs.declared.roads.Edit.{Edit}
use Rattle.cu_resettled.proofs.ResettledThere.{nodes_all}
use Rattle.cu_interval.specs.declared.ways.Way.{Way}
use Rattle.cu_interval.specs.declared.ways.Way.TheVariants.{Road, Via}
use Rattle.cu_interval.specs.declared.ways.Entry.{Entry}
use Rattle.cu_interval.specs.declared.ways.TouchedEdge.{TouchedEdge}
use Rattle.cu_interval.specs.Hierarchies.{HierarchyValue, IsHierarchy, end_of, list_from, start_of}
use Rattle.cu_resettled.specs.ResettlingAll.{NumbersTouchedBySome, hierarchy_with_all}
use Rattle.cu_edits.specs.Settling.{SettlingValue, numbers_of}
use Rattle.cu_edits.specs.Steps.Frames.{IsFrame, IsFramed}
use Rattle.cu_edits.proofs.SettledFrames.{UntouchedPair, other_frame}
use Rattle.cu_edits.proofs.Sides.{over}
use Rattle.cu_short.specs.Counts.{AreRoadCounts, AreRoadCountsBut}
use Rattle.cu_short.specs.Shortness.{most_by, most_of, way_roads}

module _ (a b : HierarchyValue) (Pair : ℕ → ℕ → Type 0) (frame : IsFrame a b Pair) where
  way_stays : (fuel u v : ℕ) (way : Way) → ((x y : ℕ) → Pair x y → most_by a fuel x y ≡ most_by b fuel x y) → IsFramed a b Pair u v way
      → way_roads (most_by a fuel) u v way ≡ way_roads (most_by b fuel) u v way
  way_stays fuel u v (Road road) halves framed = refl
  way_stays fuel u v (Via m) halves (to, on, first, second) = rw (halves u m first, halves m v second) refl

  ways_stay : (fuel u v : ℕ) → ((x y : ℕ) → Pair x y → most_by a fuel x y ≡ most_by b fuel x y) → (es : List Entry)
      → All (λ (entry : Entry). IsFramed a b Pair u v entry.way) es → most_of (way_roads (most_by a fuel) u v) es ≡ most_of (way_roads (most_by b fuel) u v) es
  ways_stay fuel u v halves [] framed = refl
  ways_stay fuel u v halves (e ∷ es) framed =
      let here = way_stays fuel u v e.way halves (framed 0 e (omega arith)) in
      let rest = ways_stay fuel u v halves es (λ k d h. framed (suc k) d (omega (arith, h))) in
      rw (here, rest) refl

  -- lists that are the same, and lead only over such lists, have the same most roads
  pub most_stays : (fuel u v : ℕ) → Pair u v → most_by a fuel u v ≡ most_by b fuel u v
  most_stays zero u v pair = refl
  most_stays (suc fuel) u v pair =
      ways_stay fuel u v (most_stays fuel) (list_from a u v) (frame.ways u v pair) ∙ ap (most_of (way_roads (most_by b fuel) u v)) (frame.lists u v pair)

-- the most roads that are counted before an edit are those after it, but for the lists of the edges that it touches
pub counts_stay : (h : HierarchyValue) → IsHierarchy h → (edits : List Edit) (lists : List TouchedEdge) → NumbersTouchedBySome h edits (numbers_of lists)
    → (counts : List ℕ) → AreRoadCounts h counts → AreRoadCountsBut (hierarchy_with_all h edits lists) counts (numbers_of lists)
counts_stay h sound edits lists numbers counts counted =
    let s : SettlingValue = record { before = h; edit = edits; settled = lists } in
    let new = hierarchy_with_all h edits lists in
    let nodes = nodes_all h.network edits in record {
      long = counted.long;
      right = λ edge dir ends at other.
          let u = start_of ends dir in
          let v = end_of ends dir in
          let (is, few) = counted.right edge dir ends at in
          let same = most_stays h new (UntouchedPair h edits) (other_frame s sound (λ e c. (numbers.exact e).0 c)) (suc (min u v)) u v
          (edge, dir, over h.edges edge dir ends at, λ touched. other ((numbers.exact edge).1 touched)) in
          (is ∙ same, omega (arith, few, nodes));
    }
