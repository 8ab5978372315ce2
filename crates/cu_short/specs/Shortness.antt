-- How many roads the walks of a list may have, and hierarchies none of whose walks is too long.
use Rattle.std.specs.Prelude.{ℕ, zero, suc, List, [], ◌∷◌, ◌≢◌, ◌<◌, ◌+◌, max, min}
use Rattle.cu_interval.specs.declared.ways.Dir.{Dir}
use Rattle.cu_interval.specs.declared.ways.Way.{Way}
use Rattle.cu_interval.specs.declared.ways.Way.TheVariants.{Road, Via}
use Rattle.cu_interval.specs.declared.ways.Entry.{Entry}
use Rattle.cu_interval.specs.declared.relaxing.Relaxed.TheVariants.{Long}
use Rattle.cu_interval.specs.Hierarchies.{EachList, HierarchyValue, list_from}
use Rattle.cu_interval.specs.Unpacking.{relaxed}

-- the most roads of a way from u to v: one, or those of both halves together
abbrev pub way_roads : (ℕ → ℕ → ℕ) → ℕ → ℕ → Way → ℕ
way_roads half u v (Road a) = 1
way_roads half u v (Via m) = half u m + half m v

-- the most roads of the ways in a list
abbrev pub most_of : (Way → ℕ) → List Entry → ℕ
most_of roads [] = 0
most_of roads (entry ∷ entries) = max (roads entry.way) (most_of roads entries)

-- the most roads of the list from u to v, by no more levels of middles than the fuel
abbrev pub most_by : HierarchyValue → ℕ → ℕ → ℕ → ℕ
most_by h zero u v = 0
most_by h (suc fuel) u v = most_of (way_roads (most_by h fuel) u v) (list_from h u v)

-- the most roads of the list from u to v: each middle is below both ends, so there are no more levels than this
abbrev pub most_roads : HierarchyValue → ℕ → ℕ → ℕ
most_roads h u v = most_by h (suc (min u v)) u v

-- each list has fewer roads, whichever ways are taken, than there are nodes
abbrev pub IsShort : HierarchyValue → Type 0
IsShort h = EachList h (λ u v entries. most_roads h u v < h.network.nodes)

-- no relaxation is answered by a walk that is too long
abbrev pub NeverLong : HierarchyValue → Type 0
NeverLong h = (edge : ℕ) (dir : Dir) (t : ℕ) → relaxed h edge dir t ≢ Long
