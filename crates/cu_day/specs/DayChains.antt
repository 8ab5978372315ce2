-- Day chains: what a whole day is asked of a hierarchy, built or not.
use Rattle.std.specs.Prelude.{ℕ, List, [], ◌∷◌, ◌++◌, Option, Some, None, ◌≡◌, ◌≢◌, ◌≤◌, ◌<◌, ◌^◌, min}
use Rattle.cu_model.specs.Days.{day}
use Rattle.cu_arrival.specs.declared.runs.Run.{Run}
use Rattle.cu_arrival.specs.Runs.{IsArrivalFunction, arrival_value}
use Rattle.cu_elimtree.specs.SweepArcs.{IsSweepArc}
use Rattle.cu_interval.specs.Hierarchies.{HierarchyValue, graph_of, list_from}
use Rattle.cu_interval.specs.Resettling.{rebuilt}

-- a sweep arc of a rank upwards, or to a rank downwards, whose list isn't empty
abbrev pub GoesUp : HierarchyValue → ℕ → ℕ → ℕ → Type 0
GoesUp h from x y = IsSweepArc (graph_of h) from x y × (list_from h x y ≢ [])

abbrev pub GoesDown : HierarchyValue → ℕ → ℕ → ℕ → Type 0
GoesDown h to x y = IsSweepArc (graph_of h) to y x × (list_from h x y ≢ [])

-- ranks passed behind x, each along such an arc, the last of them y
abbrev pub Passes : (ℕ → ℕ → Type 0) → ℕ → List ℕ → ℕ → Type 0
Passes Goes x [] y = x ≡ y
Passes Goes x (z ∷ ranks) y = Goes x z × Passes Goes z ranks y

-- a day chain, by the ranks that it passes: upwards from the start to some rank, and from there downwards to the end
pub record IsDayChain (h : HierarchyValue) (from to : ℕ) (ups downs : List ℕ) : Type 0 where
  pub top : ℕ
  pub up : Passes (GoesUp h from) from ups top
  pub down : Passes (GoesDown h to) top downs to

-- a value, up to 2^62; 0 where there is none, as of an empty list, which no chain passes
abbrev pub within_limit : Option ℕ → ℕ
within_limit None = 0
within_limit (Some value) = min value (2 ^ 62)

-- when the list from x to y arrives by its rebuilt value
abbrev pub list_drive : HierarchyValue → ℕ → ℕ → ℕ → ℕ
list_drive h x y t = within_limit (rebuilt h x y t)

-- the second that is reached past these ranks, by what drives from one to the next
abbrev pub second_behind : (ℕ → ℕ → ℕ → ℕ) → ℕ → List ℕ → ℕ → ℕ
second_behind drive x [] t = t
second_behind drive x (z ∷ ranks) t = second_behind drive z ranks (drive x z t)

-- the second that a day chain gives from a second, through its lists in their order
abbrev pub chain_second : HierarchyValue → ℕ → List ℕ → List ℕ → ℕ → ℕ
chain_second h from ups downs t = second_behind (list_drive h) from (ups ++ downs) t

-- the least that a day chain gives from a second
pub record IsLeastChain (h : HierarchyValue) (from to t arrival : ℕ) : Type 0 where
  pub reached : (ups downs : List ℕ) × IsDayChain h from to ups downs × (chain_second h from ups downs t ≡ arrival)
  pub least : (ups downs : List ℕ) → IsDayChain h from to ups downs → arrival ≤ chain_second h from ups downs t

abbrev pub HasNoChain : HierarchyValue → ℕ → ℕ → Type 0
HasNoChain h from to = (ups downs : List ℕ) → IsDayChain h from to ups downs → ⊥

-- the day function between two ranks: none exactly where there is no day chain
abbrev pub IsDayFunction : HierarchyValue → ℕ → ℕ → Option (List Run) → Type 0
IsDayFunction h from to None = HasNoChain h from to
IsDayFunction h from to (Some runs) = IsArrivalFunction runs × ((t : ℕ) → t < day → IsLeastChain h from to t (arrival_value runs t))
