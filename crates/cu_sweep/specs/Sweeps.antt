-- The calls of the two sweeps, and what a query finds.
use Rattle.std.specs.Prelude.{ℕ, Bool, false, List, [], ◌∷◌, ◌++◌, Option, Some, None, ◌≡◌, ◌+◌, nat_le, nat_lt, if◌then◌else◌, reverse, flat_map, filter_map, filter, map}
use Rattle.cu_chordal.specs.Graphs.{up_of}
use Rattle.cu_elimtree.specs.SweepArcs.{ancestors_in}
use Rattle.cu_interval.specs.declared.ways.Dir.{Dir}
use Rattle.cu_interval.specs.declared.ways.Dir.TheVariants.{Up, Down}
use Rattle.cu_interval.specs.declared.relaxing.Call.{Call}
use Rattle.cu_interval.specs.declared.relaxing.Relaxed.{Relaxed}
use Rattle.cu_interval.specs.declared.relaxing.Relaxed.TheVariants as relaxed_to
use Rattle.cu_interval.specs.Hierarchies.{HierarchyValue, graph_of, number_from}
use Rattle.cu_interval.specs.Unpacking.{relaxed}
use Rattle.cu_interval.specs.LeastBounds.{least_bound}
use Rattle.cu_sweep.specs.declared.finding.Found.{Found}
use Rattle.cu_sweep.specs.declared.finding.Found.TheVariants.{Arrive, NoWalk, Long}
use Rattle.cu_sweep.specs.Labels.{Label, call_from, down_label, earliest, label_over, start_label, up_label}

-- when a label is reached
abbrev pub second_of : Option Label → Option ℕ
second_of None = None
second_of (Some label) = Some label.second

-- the call of an edge in a direction at a second, where there are both
abbrev pub call_at : Option ℕ → Dir → Option ℕ → Option Call
call_at None dir second = None
call_at (Some edge) dir None = None
call_at (Some edge) dir (Some second) = Some (call_from edge dir second)

-- there is a second, and it is no later than another
abbrev pub is_by : Option ℕ → ℕ → Bool
is_by None second = false
is_by (Some first) second = nat_le first second

-- a call, unless it can't make its end's label earlier: that is reached by the second before which the call can't arrive
abbrev pub call_unless : HierarchyValue → Option ℕ → Option Call → Option Call
call_unless h reached None = None
call_unless h reached (Some call) = if is_by reached (call.second + least_bound h call.edge call.dir) then None else Some call

-- the calls from a rank to its higher neighbours, rising, at a second, where these are reached so before them
abbrev pub calls_up : HierarchyValue → ℕ → Option ℕ → (ℕ → Option ℕ) → List Call
calls_up h x second reached = filter_map (λ y. call_unless h (reached y) (call_at (number_from 0 h.edges x y) Up second)) (up_of h.edges x)

-- the calls to a rank from its higher neighbours, rising, each at that one's second, where the rank is reached so before each
abbrev pub calls_down : HierarchyValue → ℕ → (ℕ → Option ℕ) → (ℕ → Option ℕ) → List Call
calls_down h x seconds reached = filter_map (λ y. call_unless h (reached y) (call_at (number_from 0 h.edges x y) Down (seconds y))) (up_of h.edges x)

-- those of these ranks that are below one
abbrev pub below : ℕ → List ℕ → List ℕ
below rank ranks = filter (λ other. nat_lt other rank) ranks

-- the upward label of a rank by the calls from these ranks
abbrev pub up_label_from : HierarchyValue → ℕ → ℕ → List ℕ → ℕ → Option Label
up_label_from h from second ranks y =
    earliest (start_label from second y ∷ map (λ x. label_over h (number_from 0 h.edges x y) Up (up_label h from second x)) ranks)

-- the downward label of a rank by the calls from these neighbours
abbrev pub down_label_from : HierarchyValue → ℕ → ℕ → List ℕ → ℕ → Option Label
down_label_from h from second neighbours x =
    earliest (up_label h from second x ∷ map (λ y. label_over h (number_from 0 h.edges x y) Down (down_label h from second y)) neighbours)

-- the upward calls from an ancestor of the start: at its label, after those from the ancestors below it
abbrev pub up_calls_from : HierarchyValue → ℕ → ℕ → ℕ → List Call
up_calls_from h from second x =
    calls_up h x (second_of (up_label h from second x)) (λ y. second_of (up_label_from h from second (below x (ancestors_in (graph_of h) from)) y))

-- the upward calls: over the ancestors of the start, rising
abbrev pub up_calls : HierarchyValue → ℕ → ℕ → List Call
up_calls h from second = flat_map (up_calls_from h from second) (ancestors_in (graph_of h) from)

-- the downward calls to a rank: each at the neighbour's label, after those from the neighbours below that one
abbrev pub down_calls_to : HierarchyValue → ℕ → ℕ → ℕ → List Call
down_calls_to h from second x =
    calls_down h x (λ y. second_of (down_label h from second y)) (λ y. second_of (down_label_from h from second (below y (up_of h.edges x)) x))

-- the downward calls: over the ancestors of the end, falling
abbrev pub down_calls : HierarchyValue → ℕ → ℕ → ℕ → List Call
down_calls h from to second = flat_map (down_calls_to h from second) (reverse (ancestors_in (graph_of h) to))

abbrev pub answered : HierarchyValue → Call → Relaxed
answered h call = relaxed h call.edge call.dir call.second

abbrev pub ended_by : Relaxed → Call → List Call → List Call
ended_by relaxed_to.Long call calls = call ∷ []
ended_by relaxed_to.NoWay call calls = call ∷ calls
ended_by (relaxed_to.At second) call calls = call ∷ calls

-- these calls, up to the first that is answered by a walk that is too long
abbrev pub until_long : HierarchyValue → List Call → List Call
until_long h [] = []
until_long h (call ∷ calls) = ended_by (answered h call) call (until_long h calls)

abbrev pub long_or : Relaxed → Call → Option Call → Option Call
long_or relaxed_to.Long call rest = Some call
long_or relaxed_to.NoWay call rest = rest
long_or (relaxed_to.At second) call rest = rest

-- the first call that is answered by a walk that is too long
abbrev pub first_long : HierarchyValue → List Call → Option Call
first_long h [] = None
first_long h (call ∷ calls) = long_or (answered h call) call (first_long h calls)

-- the sweep calls: the upward ones, then the downward ones
abbrev pub sweep_calls : HierarchyValue → ℕ → ℕ → ℕ → List Call
sweep_calls h from to second = up_calls h from second ++ down_calls h from to second

-- what is found by the label of the end, where no walk was too long
abbrev pub found_by : Option Call → Option Label → Found
found_by (Some call) label = Long call.edge call.dir call.second
found_by None None = NoWalk
found_by None (Some label) = Arrive label.second

-- the swept answer: the call whose walk is too long, else the downward label of the end
abbrev pub found : HierarchyValue → ℕ → ℕ → ℕ → Found
found h from to second = found_by (first_long h (sweep_calls h from to second)) (down_label h from second to)

-- calls that are told after some were told before them, and these have added themselves
abbrev pub AddsAll : Option (List Call) → Option (List Call) → List Call → Type 0
AddsAll before None calls = Unit {0}
AddsAll before (Some after) calls = (told : List Call) × (before ≡ Some told) × (after ≡ told ++ calls)
