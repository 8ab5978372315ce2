-- Edges and lists of a hierarchy, as an unpacking looks them up.
use Rattle.std.proofs.Common.{◌≡◌, ◌<◌, ◌∙◌, ℕ, List, [], ◌∷◌, None, refl, ap}
use Rattle.cu_chordal.specs.Graphs.{HasEdge}
use Rattle.cu_chordal.proofs.Tables.{edge_within}
use Rattle.cu_interval.specs.declared.ways.Dir.{Dir}
use Rattle.cu_interval.specs.declared.ways.Entry.{Entry}
use Rattle.cu_interval.specs.WayLists.{IsWayList, way_at, way_in}
use Rattle.cu_interval.specs.Hierarchies.{HierarchyValue, IsHierarchy, start_of, list_from, list_of, way_from, graph_of}
use Rattle.cu_interval.proofs.Lookups.{list_from-edge}
use Rattle.cu_interval.proofs.Unpacked.{list_from_spelled, way_there}
use Rattle.cu_interval.specs.declared.shortcuts.Leg.{Leg}
use Rattle.cu_unpack.specs.Steps.Legs.{IsLegOf}

module _ (h : HierarchyValue) (f : IsHierarchy h) where
  pub edge_range : (x y : ℕ) → HasEdge h.edges x y → (x < y) × (y < h.network.nodes)
  edge_range x y c = edge_within (graph_of h) f.graph x y c

  -- the leg's list is the edge's
  pub leg_list : (edge : ℕ) (dir : Dir) (leg : Leg) → IsLegOf h edge dir leg → list_from h leg.from leg.to ≡ list_of h edge dir
  leg_list edge dir leg (ends, at, from, to) =
      ap (λ (u : ℕ). list_from h u leg.to) from ∙ ap (λ (v : ℕ). list_from h (start_of ends dir) v) to ∙ list_from-edge h f edge dir ends at

  -- and so is its way
  pub leg_way : (edge : ℕ) (dir : Dir) (leg : Leg) (t : ℕ) → IsLegOf h edge dir leg → way_from h leg.from leg.to t ≡ way_at (list_of h edge dir) t
  leg_way edge dir leg t is = ap (λ (entries : List Entry). way_at entries t) (leg_list edge dir leg is)

empty_without_way : (es : List Entry) → IsWayList es → (s : ℕ) → way_in es s ≡ None → es ≡ []
empty_without_way [] f s e = refl
empty_without_way (x ∷ es) f s e = let (way, is) = way_there (x ∷ es) f (λ same. absurd (cc same)) s in absurd (cc (is, e))

-- a list with no way in force is empty
pub no_way : (h : HierarchyValue) → IsHierarchy h → (u v t : ℕ) → way_from h u v t ≡ None → list_from h u v ≡ []
no_way h f u v t e = empty_without_way (list_from h u v) (list_from_spelled h f u v) _ e
