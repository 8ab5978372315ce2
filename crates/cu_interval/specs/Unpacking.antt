-- Unpacked walks: the roads that a shortcut stands for at a second.
use Rattle.std.specs.Prelude.{ℕ, zero, suc, List, [], ◌∷◌, ◌++◌, Option, Some, None, min, nat_lt, if◌then◌else◌, length, slice_get}
use Rattle.cu_model.specs.Networks.{NetworkValue}
use Rattle.cu_model.specs.Roads.{drive}
use Rattle.cu_chordal.specs.declared.graph.Ends.{Ends}
use Rattle.cu_interval.specs.declared.ways.Dir.{Dir}
use Rattle.cu_interval.specs.declared.ways.Way.{Way}
use Rattle.cu_interval.specs.declared.ways.Way.TheVariants.{Road, Via}
use Rattle.cu_interval.specs.declared.ways.Entry.{Entry}
use Rattle.cu_interval.specs.declared.relaxing.Relaxed.{Relaxed}
use Rattle.cu_interval.specs.declared.relaxing.Relaxed.TheVariants.{At, NoWay, Long}
use Rattle.cu_interval.specs.Hierarchies.{HierarchyValue, start_of, end_of, list_from, way_from}

-- a first part, and then what goes on from it
abbrev pub followed : List ℕ → (List ℕ → List ℕ) → List ℕ
followed first on = first ++ on first

-- the roads of a way from u to v at t, its halves unpacked by the function given
abbrev pub unpacked_way : NetworkValue → (ℕ → ℕ → ℕ → List ℕ) → ℕ → ℕ → ℕ → Option Way → List ℕ
unpacked_way g half u v t None = []
unpacked_way g half u v t (Some (Road a)) = a ∷ []
unpacked_way g half u v t (Some (Via m)) = followed (half u m t) (λ first. half m v (drive g first t))

-- the walk from u to v at t, by no more levels of middles than the fuel
abbrev pub unpacked : HierarchyValue → ℕ → ℕ → ℕ → ℕ → List ℕ
unpacked h zero u v t = []
unpacked h (suc fuel) u v t = unpacked_way h.network (unpacked h fuel) u v t (way_from h u v t)

-- the unpacked walk: each middle is below both ends, so there are no more levels than this
abbrev pub unpacked_walk : HierarchyValue → ℕ → ℕ → ℕ → List ℕ
unpacked_walk h u v t = unpacked h (suc (min u v)) u v t

abbrev pub answer_by : HierarchyValue → List Entry → List ℕ → ℕ → Relaxed
answer_by h [] walk t = NoWay
answer_by h (entry ∷ entries) walk t = if nat_lt (length walk) h.network.nodes then At (drive h.network walk t) else Long

-- the answer of a relaxation from u to v at t: no way where the list is empty, long where the walk has as many roads as there are nodes
abbrev pub relaxed_from : HierarchyValue → ℕ → ℕ → ℕ → Relaxed
relaxed_from h u v t = answer_by h (list_from h u v) (unpacked_walk h u v t) t

abbrev pub relaxed_ends : HierarchyValue → Option Ends → Dir → ℕ → Relaxed
relaxed_ends h None dir t = NoWay
relaxed_ends h (Some ends) dir t = relaxed_from h (start_of ends dir) (end_of ends dir) t

-- the same of an edge by its number and a direction
abbrev pub relaxed : HierarchyValue → ℕ → Dir → ℕ → Relaxed
relaxed h edge dir t = relaxed_ends h (slice_get h.edges edge) dir t
