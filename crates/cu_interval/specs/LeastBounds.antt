-- Least bounds: what no travel over a list of ways falls below.
use Rattle.std.specs.Prelude.{ℕ, zero, suc, List, [], ◌∷◌, Option, Some, None, ◌+◌, ◌-◌, ◌^◌, min, slice_get}
use Rattle.cu_model.specs.Days.{day}
use Rattle.cu_model.specs.Networks.{NetworkValue}
use Rattle.cu_model.specs.Roads.{arc_value}
use Rattle.cu_chordal.specs.declared.graph.Ends.{Ends}
use Rattle.cu_interval.specs.declared.ways.Dir.{Dir}
use Rattle.cu_interval.specs.declared.ways.Way.{Way}
use Rattle.cu_interval.specs.declared.ways.Way.TheVariants.{Road, Via}
use Rattle.cu_interval.specs.declared.ways.Entry.{Entry}
use Rattle.cu_interval.specs.Hierarchies.{HierarchyValue, start_of, end_of, list_from}

-- longer than any travel: the bound of a list without ways
abbrev pub far : ℕ
far = 2 ^ 60

-- the least of a value over the first so many seconds
unfoldable pub least_over : ℕ → (ℕ → ℕ) → ℕ
least_over zero value = far
least_over (suc seconds) value = min (least_over seconds value) (value seconds)

-- the least travel time of a road over the seconds of a day
unfoldable pub road_bound : NetworkValue → ℕ → ℕ
road_bound g a = least_over day (λ second. arc_value g a second - second)

-- the bound of a way from u to v: that of its road, or those of both halves together, up to `far`
abbrev pub way_bound : (ℕ → ℕ) → (ℕ → ℕ → ℕ) → ℕ → ℕ → Way → ℕ
way_bound road half u v (Road a) = road a
way_bound road half u v (Via m) = min (half u m + half m v) far

-- the least bound of the ways in a list
abbrev pub least_of : (Way → ℕ) → List Entry → ℕ
least_of bound [] = far
least_of bound (entry ∷ entries) = min (bound entry.way) (least_of bound entries)

-- the least bound of the list from u to v, by no more levels of middles than the fuel
abbrev pub bound_by : (ℕ → ℕ) → HierarchyValue → ℕ → ℕ → ℕ → ℕ
bound_by road h zero u v = far
bound_by road h (suc fuel) u v = least_of (way_bound road (bound_by road h fuel) u v) (list_from h u v)

abbrev pub bound_ends : (ℕ → ℕ) → HierarchyValue → Option Ends → Dir → ℕ
bound_ends road h None dir = far
bound_ends road h (Some ends) dir = bound_by road h (suc (min (start_of ends dir) (end_of ends dir))) (start_of ends dir) (end_of ends dir)

-- the least bound of the list of an edge in a direction, with these bounds of roads
abbrev pub bound_over : (ℕ → ℕ) → HierarchyValue → ℕ → Dir → ℕ
bound_over road h edge dir = bound_ends road h (slice_get h.edges edge) dir

-- the least bound of the list from u to v: each middle is below both ends, so there are no more levels than this
abbrev pub bound_from : HierarchyValue → ℕ → ℕ → ℕ
bound_from h u v = bound_by (road_bound h.network) h (suc (min u v)) u v

-- the same of an edge by its number and a direction
abbrev pub least_bound : HierarchyValue → ℕ → Dir → ℕ
least_bound h edge dir = bound_over (road_bound h.network) h edge dir
