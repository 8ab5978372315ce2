-- Bounds that are kept: what a list's is made of, where those of its halves are right.
use Rattle.std.proofs.Common.{◌≡◌, ◌<◌, ◌≢◌, ◌∙◌, ℕ, [], arith, min}
use Rattle.cu_interval.specs.declared.ways.Way.{Way}
use Rattle.cu_interval.specs.declared.ways.Way.TheVariants.{Road, Via}
use Rattle.cu_interval.specs.Hierarchies.{HierarchyValue, IsHierarchy, IsWellFormed, list_from}
use Rattle.cu_interval.proofs.Lookups.{list_formed}
use Rattle.cu_interval.specs.LeastBounds.{bound_from, least_of, road_bound, way_bound}
use Rattle.cu_interval.specs.LeastPieces.{road_pieces}
use Rattle.cu_interval.proofs.BoundFuel.{bound_from-ways, least_of-same}
use Rattle.cu_interval.proofs.PieceLaws.{road_bound-pieces}

module _ (h : HierarchyValue) (f : IsHierarchy h) (kept : ℕ → ℕ → ℕ) where
  kept_way : (u v : ℕ) (way : Way) → IsWellFormed h u v way
      → ((x y : ℕ) → min x y < min u v → list_from h x y ≢ [] → kept x y ≡ bound_from h x y)
      → way_bound (road_bound h.network) (bound_from h) u v way ≡ way_bound (road_pieces h.network) kept u v way
  kept_way u v (Road a) formed right = road_bound-pieces h.network f.network a
  kept_way u v (Via m) formed right =
      let (to, on, first, second, some, more) = formed in
      let one = right u m (omega (arith, to, on)) some in
      let two = right m v (omega (arith, to, on)) more in
      omega (arith, one, two)

  -- where the bounds of all lists with lower lower ends are kept, the next is the least over its ways by them and by pieces
  pub bound_from-kept : (u v : ℕ) → ((x y : ℕ) → min x y < min u v → list_from h x y ≢ [] → kept x y ≡ bound_from h x y)
      → bound_from h u v ≡ least_of (way_bound (road_pieces h.network) kept u v) (list_from h u v)
  bound_from-kept u v right =
      let formed = list_formed h f u v in
      bound_from-ways h f u v
      ∙ least_of-same (way_bound (road_bound h.network) (bound_from h) u v) (way_bound (road_pieces h.network) kept u v) (list_from h u v)
      (λ k d lt. kept_way u v _ (formed k d lt) right)
