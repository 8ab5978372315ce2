-- Edges, and which of them an edit touches, follow from the roads alone, whatever the profiles are.
use Rattle.std.proofs.Common.{◌≡◌, ◌⊎◌, ◌∙◌, ℕ, List, [], ◌∷◌, sym, ap, inl, inr, min}
use Rattle.std.specs.Prelude.{Some, slice_get}
use Rattle.cu_model.specs.declared.roads.Edit.{Edit}
use Rattle.cu_model.specs.declared.roads.Edit.TheVariants.{Set, Assign}
use Rattle.cu_model.specs.declared.roads.RoadArc.{RoadArc}
use Rattle.cu_model.specs.Networks.{NetworkValue}
use Rattle.cu_model.specs.Orders.{OrderValue}
use Rattle.cu_chordal.specs.declared.graph.Ends.{Ends}
use Rattle.cu_chordal.specs.Edges.{Adjacent, HasTooManyEdges, IsEdge, LinksRanks, ListsEdges, PathBelow}
use Rattle.cu_interval.specs.Touching.{IsChanged, IsTouched, by_first, by_road, by_second}
use Rattle.cu_session.specs.Replies.{Touches}

-- what the roads of one network join, or an edit changes of them, those of the other do
module _ (g other : NetworkValue) (o : OrderValue) (same : other.arcs ≡ g.arcs) where
  road_same : (a : ℕ) (arc : RoadArc) → slice_get g.arcs a ≡ Some arc → slice_get other.arcs a ≡ Some arc
  road_same a arc at = ap (λ (arcs : List RoadArc). slice_get arcs a) same ∙ at

  links_same : (a x y : ℕ) → LinksRanks g o a x y → LinksRanks other o a x y
  links_same a x y (u, v, (arc, at, tail, head), first, last) = (u, v, (arc, road_same a arc at, tail, head), first, last)

  either_same : (a x y : ℕ) → LinksRanks g o a x y ⊎ LinksRanks g o a y x → LinksRanks other o a x y ⊎ LinksRanks other o a y x
  either_same a x y (inl there) = inl (links_same a x y there)
  either_same a x y (inr back) = inr (links_same a y x back)

  adjacent_same : (x y : ℕ) → Adjacent g o x y → Adjacent other o x y
  adjacent_same x y (a, links) = (a, either_same a x y links)

  path_same : (m x : ℕ) (inner : List ℕ) (y : ℕ) → PathBelow g o m x inner y → PathBelow other o m x inner y
  path_same m x [] y path = adjacent_same x y path
  path_same m x (z ∷ inner) y (next, low, path) = (adjacent_same x z next, low, path_same m z inner y path)

  edge_kept : (x y : ℕ) → IsEdge g o x y → IsEdge other o x y
  edge_kept x y (differ, (inner, path)) = (differ, (inner, path_same (min x y) x inner y path))

  changed_same : (edit : Edit) (a : ℕ) → IsChanged g edit a → IsChanged other edit a
  changed_same (Set profile pieces) a (arc, at, is) = (arc, road_same a arc at, is)
  changed_same (Assign b profile) a is = is

  touched_kept : (edit : Edit) (x y : ℕ) → IsTouched g o edit x y → IsTouched other o edit x y
  touched_kept edit _ _ (by_road a x y changed links lt) = by_road a x y (changed_same edit a changed) (either_same a x y links) lt
  touched_kept edit _ _ (by_first m x y touched low lt first second) =
      by_first m x y (touched_kept edit m x touched) low lt (edge_kept m x first) (edge_kept m y second)
  touched_kept edit _ _ (by_second m x y touched low lt first second) =
      by_second m x y (touched_kept edit m y touched) low lt (edge_kept m x first) (edge_kept m y second)

module _ (g other : NetworkValue) (o : OrderValue) (same : other.arcs ≡ g.arcs) where
  -- the same lists have all edges
  pub edges_same : (edges : List Ends) → ListsEdges g o edges → ListsEdges other o edges
  edges_same edges is = record {
    sorted = is.sorted;
    exact = λ x y. (
      (λ has. let (lt, edge) = (is.exact x y).0 has in (lt, edge_kept g other o same x y edge)),
      λ (lt, edge). (is.exact x y).1 (lt, edge_kept other g o (sym same) x y edge),
    );
  }

  -- of the one there are too many where there are of the other
  pub many_same : HasTooManyEdges g o → HasTooManyEdges other o
  many_same is = record {
    edges = is.edges;
    many = is.many;
    differ = is.differ;
    real = λ e has. let (lt, edge) = is.real e has in (lt, edge_kept g other o same e.low e.high edge);
  }

  -- an edit touches as many
  pub touches_same : (edit : Edit) (count : ℕ) → Touches g o edit count → Touches other o edit count
  touches_same edit count is = record {
    edges = is.edges;
    listed = edges_same is.edges is.listed;
    touched = is.touched;
    rising = is.rising;
    exact = λ number. (
      (λ has. let (ends, at, touched) = (is.exact number).0 has in (ends, at, touched_kept g other o same edit ends.low ends.high touched)),
      λ (ends, at, touched). (is.exact number).1 (ends, at, touched_kept other g o (sym same) edit ends.low ends.high touched),
    );
    counted = is.counted;
  }
