-- Labels by the calls that may be made: all of a sweep, or those alone by which its end may still be reached in time.
use Rattle.std.specs.Prelude.{ℕ, zero, suc, Bool, List, [], ◌∷◌, ◌++◌, Option, Some, None, ◌≡◌, ◌+◌, ◌-◌, ◌⊎◌, nat_lt, if◌then◌else◌, true, map, flat_map, filter_map}
use Rattle.std.specs.List.{Contains}
use Rattle.cu_links.specs.Chains.{link_at}
use Rattle.cu_chordal.specs.Graphs.{up_of}
use Rattle.cu_elimtree.specs.SweepArcs.{ancestors_in}
use Rattle.cu_interval.specs.declared.ways.Dir.{Dir}
use Rattle.cu_interval.specs.declared.ways.Dir.TheVariants.{Up, Down}
use Rattle.cu_interval.specs.declared.relaxing.Call.{Call}
use Rattle.cu_interval.specs.Hierarchies.{HierarchyValue, graph_of, number_from}
use Rattle.cu_interval.specs.LeastBounds.{least_bound}
use Rattle.cu_sweep.specs.Desks.{AreArriving}
use Rattle.cu_sweep.specs.Labels.{Label, earliest, label_over, start_label}
use Rattle.cu_sweep.specs.Places.{AreKept, calls_between, dir_between, second_at}
use Rattle.cu_sweep.specs.Sweeps.{below, call_at, call_unless, second_of}
use Rattle.cu_sweep.specs.Swept.{IsPassed, IsReachedAs, IsSource, LabelsValue, Sweep}

-- a sweep, and whether a call into a place that arrives no sooner than a second may be made
pub record Led : Type 0 where
  pub from : ℕ
  pub second : ℕ
  pub path : List ℕ
  pub allows : ℕ → ℕ → Bool

abbrev pub sweep_of : Led → Sweep
sweep_of q = record { from = q.from; second = q.second; path = q.path }

-- a sweep all of whose calls may be made
abbrev pub open_to : Sweep → Led
open_to q = record { from = q.from; second = q.second; path = q.path; allows = λ place soonest. true }

-- a call, where it may be made
abbrev pub call_if : HierarchyValue → (ℕ → Bool) → Option Call → Option Call
call_if h allowed None = None
call_if h allowed (Some call) = if allowed (call.second + least_bound h call.edge call.dir) then Some call else None

-- the label that a call gives, where it may be made
abbrev pub made_over : HierarchyValue → (ℕ → Bool) → Option ℕ → Dir → Option Label → Option Label
made_over h allowed None dir label = None
made_over h allowed (Some edge) dir None = None
made_over h allowed (Some edge) dir (Some label) =
    if allowed (label.second + least_bound h edge dir) then label_over h (Some edge) dir (Some label) else None

abbrev pub up_made_by : HierarchyValue → Led → ℕ → ℕ → Option Label
up_made_by h q zero y = None
up_made_by h q (suc fuel) y =
    earliest (start_label q.from q.second y ∷ map (λ x. made_over h (q.allows y) (number_from 0 h.edges x y) Up (up_made_by h q fuel x)) (ancestors_in (graph_of h) q.from))

-- the upward label of a rank by the calls that may be made
abbrev pub up_made : HierarchyValue → Led → ℕ → Option Label
up_made h q y = up_made_by h q (suc y) y

abbrev pub down_made_by : HierarchyValue → Led → ℕ → ℕ → Option Label
down_made_by h q zero x = None
down_made_by h q (suc fuel) x =
    earliest (up_made h q x ∷ map (λ y. made_over h (q.allows (h.network.nodes + x)) (number_from 0 h.edges x y) Down (down_made_by h q fuel y)) (up_of h.edges x))

-- the downward one
abbrev pub down_made : HierarchyValue → Led → ℕ → Option Label
down_made h q x = down_made_by h q h.network.nodes x

-- the label that a rank gives another upwards
abbrev pub made_up_into : HierarchyValue → Led → ℕ → ℕ → Option Label
made_up_into h q y x = made_over h (q.allows y) (number_from 0 h.edges x y) Up (up_made h q x)

-- the upward label of a rank after the calls from these ranks
abbrev pub made_up_after : HierarchyValue → Led → List ℕ → ℕ → Option Label
made_up_after h q done y = earliest (start_label q.from q.second y ∷ map (made_up_into h q y) done)

-- the label that a higher rank gives another downwards
abbrev pub made_down_into : HierarchyValue → Led → ℕ → ℕ → Option Label
made_down_into h q x y = made_over h (q.allows (h.network.nodes + x)) (number_from 0 h.edges x y) Down (down_made h q y)

-- the downward label of a rank after the calls from these ranks
abbrev pub made_down_after : HierarchyValue → Led → List ℕ → ℕ → Option Label
made_down_after h q part x = earliest (up_made h q x ∷ map (made_down_into h q x) part)

-- the label that a place has when both sweeps are over
abbrev pub final_made : HierarchyValue → Led → ℕ → Option Label
final_made h q place = if nat_lt place h.network.nodes then up_made h q place else down_made h q (place - h.network.nodes)

-- a label whose last call is that of the link into its place
pub record IsLinkedMade (h : HierarchyValue) (q : Led) (links : List (Option (ℕ × ℕ))) (place : ℕ) (label : Label) : Type 0 where
  pub from : ℕ
  pub edge : ℕ
  pub link : link_at links place ≡ Some (from, edge)
  pub source : IsSource h (sweep_of q) place from
  pub before : Label
  pub final : final_made h q from ≡ Some before
  pub calls : label.calls ≡ before.calls ++ calls_between (dir_between h.network.nodes from place) edge (Some before.second)
  pub arriving : AreArriving h (calls_between (dir_between h.network.nodes from place) edge (Some before.second))

abbrev pub IsLinkedLabelMade : HierarchyValue → Led → List (Option (ℕ × ℕ)) → ℕ → Option Label → Type 0
IsLinkedLabelMade h q links place None = Unit {0}
IsLinkedLabelMade h q links place (Some label) = ((link_at links place ≡ None) × (label.calls ≡ [])) ⊎ IsLinkedMade h q links place label

-- a place has a label: its second, and the link of its last call, where links are kept
pub record HoldsMade (h : HierarchyValue) (q : Led) (labels : List (Option ℕ)) (links : List (Option (ℕ × ℕ))) (place : ℕ) (label : Option Label) : Type 0 where
  pub second : second_at labels place ≡ second_of label
  pub linked : AreKept links → IsLinkedLabelMade h q links place label

-- the calls from a rank to its higher neighbours that may be made, where these are reached so before them
abbrev pub rows_up : HierarchyValue → (ℕ → ℕ → Bool) → ℕ → Option ℕ → (ℕ → Option ℕ) → List Call
rows_up h allows x second reached = filter_map (λ y. call_unless h (reached y) (call_if h (allows y) (call_at (number_from 0 h.edges x y) Up second))) (up_of h.edges x)

-- the upward calls from an ancestor of the start
abbrev pub up_made_from : HierarchyValue → Led → ℕ → List Call
up_made_from h q x =
    rows_up h q.allows x (second_of (up_made h q x)) (λ y. second_of (made_up_after h q (below x (ancestors_in (graph_of h) q.from)) y))

-- the call to a rank from a higher neighbour over an edge, after those from the neighbours below that one
abbrev pub down_call : HierarchyValue → Led → ℕ → ℕ → Option ℕ → Option Call
down_call h q x y edge =
    call_unless h (second_of (made_down_after h q (below y (up_of h.edges x)) x))
    (call_if h (q.allows (h.network.nodes + x)) (call_at edge Down (second_of (down_made h q y))))

-- the downward calls to a rank
abbrev pub down_made_to : HierarchyValue → Led → ℕ → List Call
down_made_to h q x = filter_map (λ y. down_call h q x y (number_from 0 h.edges x y)) (up_of h.edges x)

-- the calls upwards from these ranks
abbrev pub up_calls_of : HierarchyValue → Led → List ℕ → List Call
up_calls_of h q ranks = flat_map (up_made_from h q) ranks

-- the calls downwards to these ranks
abbrev pub down_calls_of : HierarchyValue → Led → List ℕ → List Call
down_calls_of h q ranks = flat_map (down_made_to h q) ranks

-- after the upward calls each rank that is passed has its upward label
abbrev pub IsMadeUp : HierarchyValue → Led → LabelsValue → Type 0
IsMadeUp h q labels = (rank : ℕ) → IsPassed h (sweep_of q) rank → HoldsMade h q labels.seconds labels.links rank (up_made h q rank)

-- after the downward calls each rank of the path has its downward label
abbrev pub IsMadeDown : HierarchyValue → Led → LabelsValue → Type 0
IsMadeDown h q labels = (rank : ℕ) → Contains q.path rank → IsReachedAs h labels (labels.nodes + rank) (down_made h q rank)
