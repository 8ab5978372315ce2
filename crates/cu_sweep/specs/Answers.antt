-- What the answer of a query means on the roads.
use Rattle.std.specs.Prelude.{ℕ, List, Some, ◌≡◌, slice_get}
use Rattle.cu_model.specs.Networks.{NetworkValue}
use Rattle.cu_model.specs.Roads.{HasNoWalk, IsLeastArrival, IsWalk, drive}
use Rattle.cu_interval.specs.declared.relaxing.Call.{Call}
use Rattle.cu_interval.specs.Hierarchies.{HierarchyValue, IsBuilt}
use Rattle.cu_sweep.specs.declared.finding.Found.{Found}
use Rattle.cu_sweep.specs.declared.finding.Found.TheVariants.{Arrive, NoWalk, Long}
use Rattle.cu_sweep.specs.Desks.{roads_of}

-- the least arrival between two nodes, or that there is no walk, and never that a walk is too long
abbrev pub IsAnswer : NetworkValue → ℕ → ℕ → ℕ → Found → Type 0
IsAnswer g u v t (Arrive arrival) = IsLeastArrival g u v t arrival
IsAnswer g u v t NoWalk = HasNoWalk g u v
IsAnswer g u v t (Long edge dir second) = ⊥

-- where the hierarchy is built, this is the answer between the nodes of the ranks
abbrev pub IsLeastWhereBuilt : HierarchyValue → ℕ → ℕ → ℕ → Found → Type 0
IsLeastWhereBuilt h from to t found =
    IsBuilt h → (u v : ℕ) → slice_get h.order.node_at from ≡ Some u → slice_get h.order.node_at to ≡ Some v
    → IsAnswer h.network u v t found

-- in any hierarchy, the roads of these calls are a walk between the nodes of the ranks, and arrive when it is said
abbrev pub IsReal : HierarchyValue → ℕ → ℕ → ℕ → List Call → Found → Type 0
IsReal h from to t calls NoWalk = Unit {0}
IsReal h from to t calls (Long edge dir second) = Unit {0}
IsReal h from to t calls (Arrive arrival) =
    (u v : ℕ) → slice_get h.order.node_at from ≡ Some u → slice_get h.order.node_at to ≡ Some v
    → IsWalk h.network u (roads_of h calls) v × (drive h.network (roads_of h calls) t ≡ arrival)
