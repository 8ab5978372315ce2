-- What an edit doesn't touch keeps its least bound.
use Rattle.std.proofs.Common.{◌≡◌, ◌<◌, ◌-◌, ◌∙◌, ℕ, zero, suc, List, [], ◌∷◌, Option, Some, refl, sym, ap, arith, length, min}
use Rattle.std.specs.Prelude.{All, slice_get}
use Rattle.std.specs.List.{Contains}
use Rattle.cu_model.specs.declared.roads.Edit.{Edit}
use Rattle.cu_model.specs.Days.{day}
use Rattle.cu_model.specs.Networks.{NetworkValue}
use Rattle.cu_model.specs.Roads.{arc_value}
use Rattle.cu_model.proofs.ListLaws.{item_there}
use Rattle.cu_chordal.specs.declared.graph.Ends.{Ends}
use Rattle.cu_interval.specs.declared.ways.Dir.{Dir}
use Rattle.cu_interval.specs.declared.ways.Way.{Way}
use Rattle.cu_interval.specs.declared.ways.Way.TheVariants.{Road, Via}
use Rattle.cu_interval.specs.declared.ways.Entry.{Entry}
use Rattle.cu_interval.specs.declared.ways.TouchedEdge.{TouchedEdge}
use Rattle.cu_interval.specs.Hierarchies.{HierarchyValue, IsHierarchy, end_of, list_from, start_of}
use Rattle.cu_interval.specs.LeastBounds.{bound_by, bound_ends, least_bound, least_of, least_over, road_bound, way_bound}
use Rattle.cu_edits.specs.Settling.{SettlingValue, numbers_of}
use Rattle.cu_edits.specs.Steps.Frames.{IsFrame, IsFramed}
use Rattle.cu_edits.proofs.SettledFrames.{UntouchedPair, other_frame}
use Rattle.cu_edits.proofs.Sides.{over}
use Rattle.cu_resettled.specs.ResettlingAll.{NumbersTouchedBySome, hierarchy_with_all}

least_over-same : (n : ℕ) (f g : ℕ → ℕ) → ((s : ℕ) → f s ≡ g s) → least_over n f ≡ least_over n g
unfolding least_over
least_over-same zero f g same = refl
least_over-same (suc n) f g same = rw (least_over-same n f g same, same n) refl

-- a road that is driven alike has the same bound
road_stays : (a b : NetworkValue) (road : ℕ) → ((t : ℕ) → arc_value a road t ≡ arc_value b road t) → road_bound a road ≡ road_bound b road
unfolding road_bound
road_stays a b road same = least_over-same day (λ s. arc_value a road s - s) (λ s. arc_value b road s - s) (λ s. ap (λ (x : ℕ). x - s) (same s))

module _ (a b : HierarchyValue) (Pair : ℕ → ℕ → Type 0) (frame : IsFrame a b Pair) where
  way_stays : (fuel u v : ℕ) (way : Way) → ((x y : ℕ) → Pair x y → bound_by (road_bound a.network) a fuel x y ≡ bound_by (road_bound b.network) b fuel x y)
      → IsFramed a b Pair u v way
      → way_bound (road_bound a.network) (bound_by (road_bound a.network) a fuel) u v way ≡ way_bound (road_bound b.network) (bound_by (road_bound b.network) b fuel) u v way
  way_stays fuel u v (Road road) halves framed = road_stays a.network b.network road framed
  way_stays fuel u v (Via m) halves (to, on, first, second) = rw (halves u m first, halves m v second) refl

  least_stays : (fuel u v : ℕ) → ((x y : ℕ) → Pair x y → bound_by (road_bound a.network) a fuel x y ≡ bound_by (road_bound b.network) b fuel x y)
      → (es : List Entry) → All (λ (entry : Entry). IsFramed a b Pair u v entry.way) es
      → least_of (way_bound (road_bound a.network) (bound_by (road_bound a.network) a fuel) u v) es
      ≡ least_of (way_bound (road_bound b.network) (bound_by (road_bound b.network) b fuel) u v) es
  least_stays fuel u v halves [] framed = refl
  least_stays fuel u v halves (e ∷ es) framed =
      let here = way_stays fuel u v e.way halves (framed 0 e (omega arith)) in
      let rest = least_stays fuel u v halves es (λ k d h. framed (suc k) d (omega (arith, h))) in
      rw (here, rest) refl

  -- lists that are the same, and lead only over such lists and roads driven alike, have the same bounds
  bound_stays : (fuel u v : ℕ) → Pair u v → bound_by (road_bound a.network) a fuel u v ≡ bound_by (road_bound b.network) b fuel u v
  bound_stays zero u v pair = refl
  bound_stays (suc fuel) u v pair =
      let same = frame.lists u v pair in
      let least = least_stays fuel u v (bound_stays fuel) (list_from a u v) (frame.ways u v pair) in
      least ∙ ap (λ (es : List Entry). least_of (way_bound (road_bound b.network) (bound_by (road_bound b.network) b fuel) u v) es) same

  -- the same of an edge by its number, where both have the same edges
  pub least_bound-stays : a.edges ≡ b.edges → (edge : ℕ) (dir : Dir) (ends : Ends) → slice_get a.edges edge ≡ Some ends
      → Pair (start_of ends dir) (end_of ends dir) → least_bound a edge dir ≡ least_bound b edge dir
  least_bound-stays same edge dir ends at pair =
      let there : slice_get b.edges edge ≡ Some ends = sym (ap (λ (es : List Ends). slice_get es edge) same) ∙ at in
      let u = start_of ends dir in
      let v = end_of ends dir in
      ap (λ (o : Option Ends). bound_ends (road_bound a.network) a o dir) at ∙ bound_stays (suc (min u v)) u v pair
      ∙ sym (ap (λ (o : Option Ends). bound_ends (road_bound b.network) b o dir) there)

-- an edge that an edit doesn't touch keeps the least bounds of its lists, whatever the new lists of those that it touches
pub untouched_bound : (h : HierarchyValue) → IsHierarchy h → (edit : List Edit) (lists : List TouchedEdge) → NumbersTouchedBySome h edit (numbers_of lists)
    → (edge : ℕ) (dir : Dir) → edge < length h.edges → (Contains (numbers_of lists) edge → ⊥)
    → least_bound h edge dir ≡ least_bound (hierarchy_with_all h edit lists) edge dir
untouched_bound h sound edit lists numbers edge dir inside other =
    let s : SettlingValue = record { before = h; edit = edit; settled = lists } in
    let (ends, at) = item_there h.edges edge inside in
    least_bound-stays h (hierarchy_with_all h edit lists) (UntouchedPair h edit) (other_frame s sound (λ e c. (numbers.exact e).0 c)) refl edge dir ends at
    (edge, dir, over h.edges edge dir ends at, λ touched. other ((numbers.exact edge).1 touched))
