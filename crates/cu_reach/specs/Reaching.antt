-- One-to-all: the labels that a reach leaves, and what these are on the roads.
use Rattle.std.specs.Prelude.{ℕ, List, ◌≡◌, ◌<◌, ◌+◌, ◌++◌, Option, Some, None, length, map, slice_get}
use Rattle.std.specs.List.{Contains, range_with_len}
use Rattle.cu_interval.specs.declared.relaxing.Call.{Call}
use Rattle.cu_interval.specs.Hierarchies.{HierarchyValue, IsBuilt}
use Rattle.cu_sweep.specs.Labels.{down_label}
use Rattle.cu_sweep.specs.Places.{second_at}
use Rattle.cu_sweep.specs.Sweeps.{first_long, second_of, up_calls}
use Rattle.cu_sweep.specs.Swept.{LabelsValue, path_calls}
use Rattle.cu_sweep.specs.ToAll.{IsTime, reach_calls}
use Rattle.cu_reach.specs.declared.reaching.Reached.{Reached}
use Rattle.cu_reach.specs.declared.reaching.Reached.TheVariants.{Done, Long}

-- when each rank is reached downwards
abbrev pub labels_of : LabelsValue → List (Option ℕ)
labels_of labels = map (λ rank. second_at labels.seconds (labels.nodes + rank)) (range_with_len 0 labels.nodes)

abbrev pub reached_by : Option Call → Reached
reached_by None = Done
reached_by (Some call) = Long call.edge call.dir call.second

-- that all ranks have their labels, or the first call whose walk is too long
abbrev pub reached : HierarchyValue → ℕ → ℕ → Reached
reached h from second = reached_by (first_long h (reach_calls h from second))

-- when a reach comes to a rank: its downward label
abbrev pub reached_at : HierarchyValue → ℕ → ℕ → ℕ → Option ℕ
reached_at h from second rank = second_of (down_label h from second rank)

-- the labels of all ranks
abbrev pub HoldsLabels : HierarchyValue → ℕ → ℕ → List (Option ℕ) → Type 0
HoldsLabels h from second seconds =
    (length seconds ≡ h.network.nodes) × ((rank : ℕ) → rank < h.network.nodes → slice_get seconds rank ≡ Some (reached_at h from second rank))

-- the labels of the ranks of a path
abbrev pub HoldsLabelsOver : HierarchyValue → ℕ → ℕ → List ℕ → List (Option ℕ) → Type 0
HoldsLabelsOver h from second path seconds =
    (length seconds ≡ h.network.nodes) × ((rank : ℕ) → Contains path rank → slice_get seconds rank ≡ Some (reached_at h from second rank))

-- those of the ranks of these nodes
abbrev pub HoldsTimes : HierarchyValue → ℕ → ℕ → List ℕ → List (Option ℕ) → Type 0
HoldsTimes h from second nodes seconds =
    (node rank : ℕ) → Contains nodes node → slice_get h.order.rank_of node ≡ Some rank → rank < h.network.nodes
    → slice_get seconds rank ≡ Some (reached_at h from second rank)

-- the calls of a reach that goes down over a path
abbrev pub calls_over : HierarchyValue → ℕ → ℕ → List ℕ → List Call
calls_over h from second path = up_calls h from second ++ path_calls h (record { from = from; second = second; path = path })

-- so it is where all have theirs
abbrev pub HoldsReached : HierarchyValue → ℕ → ℕ → Reached → List (Option ℕ) → Type 0
HoldsReached h from second Done seconds = HoldsLabels h from second seconds
HoldsReached h from second (Long edge dir t) seconds = Unit {0}

-- where the hierarchy is built, no walk is too long, and each label is the least arrival at the rank's node
pub record IsAllWhereBuilt (h : HierarchyValue) (from second : ℕ) (answer : Reached) (seconds : List (Option ℕ)) : Type 0 where
  pub done : IsBuilt h → answer ≡ Done
  pub least : IsBuilt h → (u v rank : ℕ) (label : Option ℕ) → slice_get h.order.node_at from ≡ Some u → slice_get h.order.node_at rank ≡ Some v
      → slice_get seconds rank ≡ Some label → IsTime h.network u v second label
