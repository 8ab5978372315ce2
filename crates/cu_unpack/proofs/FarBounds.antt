-- No least bound is above `far`.
use Rattle.std.proofs.Common.{◌≤◌, ℕ, Option, Some, None, arith, min}
use Rattle.std.specs.Prelude.{slice_get}
use Rattle.cu_chordal.specs.declared.graph.Ends.{Ends}
use Rattle.cu_interval.specs.declared.ways.Dir.{Dir}
use Rattle.cu_interval.specs.Hierarchies.{HierarchyValue, end_of, list_from, start_of}
use Rattle.cu_interval.specs.LeastBounds.{bound_by, bound_ends, far, least_bound, road_bound, way_bound}
use Rattle.cu_interval.proofs.BoundFuel.{least_of-far}

pub least_bound-far : (h : HierarchyValue) (edge : ℕ) (dir : Dir) → least_bound h edge dir ≤ far
least_bound-far h edge dir =
    ends_far (slice_get h.edges edge)
  where
    ends_far : (o : Option Ends) → bound_ends (road_bound h.network) h o dir ≤ far
    ends_far None = omega arith
    ends_far (Some ends) =
        let u = start_of ends dir in
        let v = end_of ends dir in
        least_of-far (way_bound (road_bound h.network) (bound_by (road_bound h.network) h (min u v)) u v) (list_from h u v)
