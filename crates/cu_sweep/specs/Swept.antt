-- What labels hold while a sweep goes up from its start and then down over its path, and which calls it makes.
use Rattle.std.specs.Prelude.{ℕ, Bool, List, [], ◌++◌, Option, Some, None, ◌≡◌, ◌<◌, ◌+◌, ◌-◌, ◌⊎◌, ◌==◌, All, nat_lt, if◌then◌else◌, flat_map, reverse}
use Rattle.std.specs.List.{Contains}
use Rattle.cu_links.specs.Chains.{link_at}
use Rattle.cu_chordal.specs.Graphs.{HasEdge}
use Rattle.cu_elimtree.specs.SweepArcs.{ancestors_in}
use Rattle.cu_interval.specs.declared.relaxing.Call.{Call}
use Rattle.cu_interval.specs.Hierarchies.{HierarchyValue, graph_of}
use Rattle.cu_sweep.specs.Desks.{AreArriving, DeskValue}
use Rattle.cu_sweep.specs.Labels.{Label, down_label, up_label}
use Rattle.cu_sweep.specs.Places.{AreKept, calls_between, calls_found, dir_between, second_at}
use Rattle.cu_sweep.specs.Sweeps.{AddsAll, down_calls_to, first_long, second_of, until_long}

-- where and when a sweep starts, and the ranks that it goes down over
pub record Sweep : Type 0 where
  pub from : ℕ
  pub second : ℕ
  pub path : List ℕ

-- for how many nodes there are labels, when each place is reached, by which links, none where they aren't kept, and whether these were turned since
pub record LabelsValue : Type 0 where
  pub nodes : ℕ
  pub seconds : List (Option ℕ)
  pub links : List (Option (ℕ × ℕ))
  pub turned : Bool

-- the ranks that a sweep passes: the ancestors of its start, and its path
abbrev pub IsPassed : HierarchyValue → Sweep → ℕ → Type 0
IsPassed h q rank = (rank < h.network.nodes) × (Contains (ancestors_in (graph_of h) q.from) rank ⊎ Contains q.path rank)

-- a path is closed: with a rank it has all its higher neighbours
abbrev pub IsClosed : HierarchyValue → List ℕ → Type 0
IsClosed h path = (low high : ℕ) → Contains path low → HasEdge h.edges low high → Contains path high

-- the label that a place has when both sweeps are over
abbrev pub final_label : HierarchyValue → Sweep → ℕ → Option Label
final_label h q place =
    if nat_lt place h.network.nodes then up_label h q.from q.second place else down_label h q.from q.second (place - h.network.nodes)

-- where a link into a place comes from: the upward label of a rank that is passed, or the downward one of a higher neighbour
abbrev pub IsSource : HierarchyValue → Sweep → ℕ → ℕ → Type 0
IsSource h q place from =
    IsPassed h q from ⊎ ((x y : ℕ) × (from ≡ h.network.nodes + y) × (place ≡ h.network.nodes + x) × HasEdge h.edges x y)

-- a label whose last call is that of the link into its place
pub record IsLinked (h : HierarchyValue) (q : Sweep) (links : List (Option (ℕ × ℕ))) (place : ℕ) (label : Label) : Type 0 where
  pub from : ℕ
  pub edge : ℕ
  pub link : link_at links place ≡ Some (from, edge)
  pub source : IsSource h q place from
  pub before : Label
  pub final : final_label h q from ≡ Some before
  pub calls : label.calls ≡ before.calls ++ calls_between (dir_between h.network.nodes from place) edge (Some before.second)
  pub arriving : AreArriving h (calls_between (dir_between h.network.nodes from place) edge (Some before.second))

abbrev pub IsLinkedLabel : HierarchyValue → Sweep → List (Option (ℕ × ℕ)) → ℕ → Option Label → Type 0
IsLinkedLabel h q links place None = Unit {0}
IsLinkedLabel h q links place (Some label) = ((link_at links place ≡ None) × (label.calls ≡ [])) ⊎ IsLinked h q links place label

-- a place has a label: its second, and the link of its last call, where links are kept
pub record Holds (h : HierarchyValue) (q : Sweep) (labels : List (Option ℕ)) (links : List (Option (ℕ × ℕ))) (place : ℕ) (label : Option Label) : Type 0 where
  pub second : second_at labels place ≡ second_of label
  pub linked : AreKept links → IsLinkedLabel h q links place label

-- the second of a rank when a sweep begins
abbrev pub begun_second : ℕ → ℕ → ℕ → Option ℕ
begun_second from second rank = if rank == from then Some second else None

-- before the first call only the start is reached of the ranks that are passed, and no place has a link
pub record IsBegun (h : HierarchyValue) (q : Sweep) (labels : LabelsValue) : Type 0 where
  pub seconds : (rank : ℕ) → IsPassed h q rank → second_at labels.seconds rank ≡ begun_second q.from q.second rank
  pub unlinked : All (λ link. link ≡ None) labels.links

-- after the upward calls each rank that is passed has its upward label
abbrev pub IsSweptUp : HierarchyValue → Sweep → LabelsValue → Type 0
IsSweptUp h q labels = (rank : ℕ) → IsPassed h q rank → Holds h q labels.seconds labels.links rank (up_label h q.from q.second rank)

-- a place is reached as a label says: at its second, and, where links are kept, by its calls, which all arrive
pub record IsReachedAs (h : HierarchyValue) (labels : LabelsValue) (place : ℕ) (label : Option Label) : Type 0 where
  pub second : second_at labels.seconds place ≡ second_of label
  pub calls : AreKept labels.links → (one : Label) → label ≡ Some one
      → (calls_found labels.nodes labels.seconds labels.links place ≡ one.calls) × AreArriving h one.calls

-- after the downward calls each rank of the path has its downward label
abbrev pub IsSweptDown : HierarchyValue → Sweep → LabelsValue → Type 0
IsSweptDown h q labels = (rank : ℕ) → Contains q.path rank → IsReachedAs h labels (labels.nodes + rank) (down_label h q.from q.second rank)

-- the downward calls: over the path, falling
abbrev pub path_calls : HierarchyValue → Sweep → List Call
path_calls h q = flat_map (down_calls_to h q.from q.second) (reverse q.path)

-- these calls were made, up to the first whose walk is too long, which is the answer
pub record Makes (h : HierarchyValue) (calls : List Call) (before now : Option (List Call)) (long : Option Call) : Type 0 where
  pub ended : long ≡ first_long h calls
  pub told : AddsAll before now (until_long h calls)

-- what a desk with these labels shows where the last query's end has this place
abbrev pub desk_of : LabelsValue → ℕ → DeskValue
desk_of labels end = record {
  nodes = labels.nodes;
  calls = calls_found labels.nodes labels.seconds labels.links end;
  turned = labels.turned;
}
