-- Pairs of ranks that some of several edits touches, whichever is lower: what touches them, and what is read where they aren't touched.
use Rattle.std.proofs.Common.{◌≡◌, ◌≢◌, ◌<◌, ◌∙◌, ◌⊎◌, ℕ, List, Some, refl, sym, ap, subst, arith, inl, inr}
use Rattle.std.specs.Prelude.{slice_get}
use Rattle.std.proofs.lemmas.Bool.{cases_lt}
use Rattle.std.proofs.lemmas.Option.{same_Some}
use Rattle.cu_model.specs.declared.roads.Edit.{Edit}
use Rattle.cu_model.specs.Networks.{NetworkValue}
use Rattle.cu_model.specs.Orders.{OrderValue}
use Rattle.cu_model.specs.Roads.{arc_value}
use Rattle.cu_chordal.specs.declared.graph.Ends.{Ends}
use Rattle.cu_chordal.specs.Edges.{IsEdge, LinksRanks}
use Rattle.cu_interval.specs.declared.ways.Dir.{Dir}
use Rattle.cu_interval.specs.declared.ways.Dir.TheVariants.{Up, Down}
use Rattle.cu_interval.specs.declared.ways.Way.{Way}
use Rattle.cu_interval.specs.declared.ways.Way.TheVariants.{Road, Via}
use Rattle.cu_interval.specs.Hierarchies.{HierarchyValue, IsHierarchy, IsWellFormed, end_of, list_of, start_of}
use Rattle.cu_interval.specs.Resettling.{rebuilt}
use Rattle.cu_resettled.specs.ResettlingAll.{IsTouchedBySome, IsTouchedEdgeBySome, edited_all}
use Rattle.cu_interval.proofs.Lookups.{list_formed}
use Rattle.cu_resettled.proofs.RebuiltBelow.{AreReadAlike, IsReadAlike, lists_from_both, rebuilt_alike}
use Rattle.cu_resettled.proofs.ResettledRoads.{IsSameRoad, same_arrives}
use Rattle.cu_resettled.proofs.TouchedBySome.{covered}

-- some of the edits touches the edge of two ranks, whichever is lower
abbrev pub IsTouchedPair : NetworkValue → OrderValue → List Edit → ℕ → ℕ → Type 0
IsTouchedPair g o edits u v = IsTouchedBySome g o edits u v ⊎ IsTouchedBySome g o edits v u

module _ (g : NetworkValue) (o : OrderValue) (edits : List Edit) where
  pub pair_back : (u v : ℕ) → IsTouchedPair g o edits u v → IsTouchedPair g o edits v u
  pair_back u v (inl t) = inr t
  pair_back u v (inr t) = inl t

  -- a road between two ranks that aren't touched is the same
  pub road_off : (a u v : ℕ) → u ≢ v → LinksRanks g o a u v → (IsTouchedPair g o edits u v → ⊥) → IsSameRoad g (edited_all g edits) a
  road_off a u v apart links off =
      let cover = covered g o edits in
      elim (cases_lt u v) [
        | inl lt ↦ cover.roads a u v (inl links) lt (λ t. off (inl t))
        | inr ge ↦ cover.roads a v u (inr links) (omega (arith, ge, apart)) (λ t. off (inr t))
      ]

  pub side_touches : (m u v : ℕ) → u ≢ v → m < u → m < v → IsEdge g o m u → IsEdge g o m v
      → IsTouchedBySome g o edits m u → IsTouchedPair g o edits u v
  side_touches m u v apart mu mv one two touched =
      elim (cases_lt u v) [
        | inl lt ↦ inl ((covered g o edits).first m u v touched mu lt one two)
        | inr ge ↦ inr ((covered g o edits).second m v u touched mv (omega (arith, ge, apart)) two one)
      ]

  -- a side from a lower middle is touched upwards
  pub pair_up : (m u : ℕ) → m < u → IsTouchedPair g o edits u m → IsTouchedBySome g o edits m u
  pair_up m u lt (inl t) = let rise = (covered g o edits).rises u m t in absurd (omega (arith, lt, rise))
  pair_up m u lt (inr t) = t

  -- the sides over which a pair lies aren't touched where the pair isn't
  pub sides_off : (m u v : ℕ) → u ≢ v → m < u → m < v → IsEdge g o m u → IsEdge g o m v
      → (IsTouchedPair g o edits u v → ⊥)
      → (IsTouchedPair g o edits u m → ⊥) × (IsTouchedPair g o edits m v → ⊥)
  sides_off m u v apart mu mv one two off = (
    (λ t. off (side_touches m u v apart mu mv one two (pair_up m u mu t))),
    (λ t. off (pair_back v u
        (side_touches m v u (λ same. apart (sym same)) mv mu two one (pair_up m v mv (pair_back m v t))))),
  )

  -- the ends of an edge, in a direction
  pub pair_of_edge : (ends : Ends) (dir : Dir) → IsTouchedBySome g o edits ends.low ends.high
      → IsTouchedPair g o edits (start_of ends dir) (end_of ends dir)
  pair_of_edge ends Up t = inl t
  pair_of_edge ends Down t = inr t

  pub edge_of_pair : (ends : Ends) (dir : Dir) → ends.low < ends.high
      → IsTouchedPair g o edits (start_of ends dir) (end_of ends dir) → IsTouchedBySome g o edits ends.low ends.high
  edge_of_pair ends Up lt t = pair_up ends.low ends.high lt (pair_back ends.low ends.high t)
  edge_of_pair ends Down lt t = pair_up ends.low ends.high lt t

-- two different ranks that none of the edits touches
abbrev pub IsUntouched : HierarchyValue → List Edit → ℕ → ℕ → Type 0
IsUntouched h edits u v = (u ≢ v) × (IsTouchedPair h.network h.order edits u v → ⊥)

module _ (old new : HierarchyValue) (edits : List Edit) (sound : IsHierarchy old) (network : new.network ≡ edited_all old.network edits) (edges : new.edges ≡ old.edges)
    (kept : (edge : ℕ) (dir : Dir) → (IsTouchedEdgeBySome old edits edge → ⊥) → list_of new edge dir ≡ list_of old edge dir) where
  way_read : (u v : ℕ) (way : Way) → IsUntouched old edits u v → IsWellFormed old u v way → IsReadAlike old new (IsUntouched old edits) u v way
  way_read u v (Road a) (apart, off) (p, q, (links, free), from, to) =
      let same = road_off old.network old.order edits a u v apart (p, q, links, from, to) off in
      λ t. same_arrives old.network (edited_all old.network edits) a t same ∙ ap (λ (g : NetworkValue). arc_value g a t) (sym network)
  way_read u v (Via m) (apart, off) (mu, mv, first, second, some, other) =
      let one = ((sound.edges.exact m u).0 first).1 in
      let two = ((sound.edges.exact m v).0 second).1 in
      let none = sides_off old.network old.order edits m u v apart mu mv one two off in
      (((λ same. omega (arith, mu, same)), none.0), ((λ same. omega (arith, mv, same)), none.1))

  pub edge_kept : (u v edge : ℕ) (dir : Dir) (ends : Ends) → IsUntouched old edits u v → slice_get old.edges edge ≡ Some ends → start_of ends dir ≡ u
      → end_of ends dir ≡ v → list_of old edge dir ≡ list_of new edge dir
  edge_kept u v edge dir ends (apart, off) at from to =
      sym (kept edge dir (λ t.
      let same : t.0 ≡ ends = same_Some t.0 ends (sym t.1 ∙ at) in
      let touched = pair_of_edge old.network old.order edits ends dir (subst (λ (x : Ends). IsTouchedBySome old.network old.order edits x.low x.high) same t.2) in
      off (subst (λ (x : ℕ). IsTouchedPair old.network old.order edits x v) from
      (subst (λ (y : ℕ). IsTouchedPair old.network old.order edits (start_of ends dir) y) to touched))))

  -- between ranks that aren't touched only roads that aren't changed and lists that are kept are read
  pub untouched_alike : AreReadAlike old new (IsUntouched old edits)
  untouched_alike = record {
    lists = λ u v none. lists_from_both old new u v (λ one two. one ≡ two) (sym edges) refl
        (λ edge dir ends at from to low. edge_kept u v edge dir ends none at from to);
    ways = λ u v none i d lt. way_read u v _ none (list_formed old sound u v i d lt);
  }

  -- so the rebuilt value stays
  pub untouched_rebuilt : (u v t : ℕ) → IsUntouched old edits u v → rebuilt old u v t ≡ rebuilt new u v t
  untouched_rebuilt u v t none = rebuilt_alike old new (IsUntouched old edits) untouched_alike u v t none
