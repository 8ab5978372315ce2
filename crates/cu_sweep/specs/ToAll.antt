-- One-to-all: the calls of a reach, and the seconds at which all ranks are reached.
use Rattle.std.specs.Prelude.{ℕ, List, ◌++◌, Option, Some, None, ◌≡◌, ◌<◌, ◌+◌, flat_map, reverse, slice_get}
use Rattle.std.specs.List.{range_with_len}
use Rattle.cu_model.specs.Networks.{NetworkValue}
use Rattle.cu_model.specs.Roads.{HasNoWalk, IsLeastArrival}
use Rattle.cu_interval.specs.declared.relaxing.Call.{Call}
use Rattle.cu_interval.specs.Hierarchies.{HierarchyValue, IsBuilt}
use Rattle.cu_sweep.specs.Labels.{down_label}
use Rattle.cu_sweep.specs.Places.{second_at}
use Rattle.cu_sweep.specs.Sweeps.{down_calls_to, up_calls}
use Rattle.cu_sweep.specs.Swept.{IsReachedAs, LabelsValue}

-- the downward calls to all ranks, falling
abbrev pub down_calls_to_all : HierarchyValue → ℕ → ℕ → List Call
down_calls_to_all h from second = flat_map (down_calls_to h from second) (reverse (range_with_len 0 h.network.nodes))

-- the reach calls: the upward ones of a query, then the downward ones to all ranks
abbrev pub reach_calls : HierarchyValue → ℕ → ℕ → List Call
reach_calls h from second = up_calls h from second ++ down_calls_to_all h from second

-- each rank is reached as its downward label says
abbrev pub AreReached : HierarchyValue → ℕ → ℕ → LabelsValue → Type 0
AreReached h from second labels =
    (rank : ℕ) → rank < h.network.nodes → IsReachedAs h labels (labels.nodes + rank) (down_label h from second rank)

-- the least arrival over all walks from one node to another, and none where there is no walk
abbrev pub IsTime : NetworkValue → ℕ → ℕ → ℕ → Option ℕ → Type 0
IsTime g u v t None = HasNoWalk g u v
IsTime g u v t (Some arrival) = IsLeastArrival g u v t arrival

-- each rank is reached at the least arrival at its node, and not where there is no walk
abbrev pub AreTimes : HierarchyValue → ℕ → ℕ → LabelsValue → Type 0
AreTimes h from t labels =
    (rank u v : ℕ) → slice_get h.order.node_at from ≡ Some u → slice_get h.order.node_at rank ≡ Some v
    → IsTime h.network u v t (second_at labels.seconds (labels.nodes + rank))

-- where the hierarchy is built, no walk is too long, and all times are least
abbrev pub AreTimesWhereBuilt : HierarchyValue → ℕ → ℕ → Option Call → LabelsValue → Type 0
AreTimesWhereBuilt h from t long labels = IsBuilt h → (long ≡ None) × AreTimes h from t labels
