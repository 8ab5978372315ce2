-- What the sweeps leave in the places of the ranks that they pass, call by call.
use Rattle.std.specs.Prelude.{ℕ, Bool, List, [], ◌∷◌, ◌++◌, Option, Some, None, ◌≡◌, ◌+◌, nat_lt, if◌then◌else◌, true, slice_set}
use Rattle.std.specs.List.{Contains}
use Rattle.cu_interval.specs.declared.ways.Dir.{Dir}
use Rattle.cu_interval.specs.declared.ways.Dir.TheVariants.{Up, Down}
use Rattle.cu_interval.specs.declared.relaxing.Call.{Call}
use Rattle.cu_interval.specs.declared.relaxing.Relaxed.{Relaxed}
use Rattle.cu_interval.specs.declared.relaxing.Relaxed.TheVariants.{At, NoWay, Long}
use Rattle.cu_interval.specs.Hierarchies.{HierarchyValue, number_from}
use Rattle.cu_interval.specs.Unpacking.{relaxed}
use Rattle.cu_sweep.specs.declared.finding.Found.{Found}
use Rattle.cu_sweep.specs.declared.finding.Found.TheVariants.{Arrive, NoWalk}
use Rattle.cu_interval.specs.LeastBounds.{least_bound}
use Rattle.cu_sweep.specs.Labels.{Label, down_label, label_over, up_label}
use Rattle.cu_sweep.specs.Sweeps.{AddsAll, call_at, call_unless, down_label_from, first_long, until_long, up_label_from}
use Rattle.cu_sweep.specs.Places.{second_at}
use Rattle.cu_sweep.specs.Swept.{IsPassed, Sweep}
use Rattle.cu_sweep.specs.Steps.Made.{HoldsMade, Led, call_if, down_calls_of, down_made, down_made_to, made_up_after, sweep_of, up_calls_of, up_made}

-- what a call answers at a second, where there is one and the call may be made
abbrev pub answer_in : HierarchyValue → (ℕ → Bool) → ℕ → Dir → Option ℕ → Relaxed
answer_in h allowed edge dir None = NoWay
answer_in h allowed edge dir (Some second) = if allowed (second + least_bound h edge dir) then relaxed h edge dir second else NoWay

-- an arrival is earlier than a second, or there is none
abbrev pub is_earlier : ℕ → Option ℕ → Bool
is_earlier arrival None = true
is_earlier arrival (Some second) = nat_lt arrival second

abbrev pub seconds_after : List (Option ℕ) → ℕ → Relaxed → List (Option ℕ)
seconds_after labels into (At arrival) = if is_earlier arrival (second_at labels into) then slice_set labels into (Some arrival) else labels
seconds_after labels into NoWay = labels
seconds_after labels into Long = labels

abbrev pub links_after : List (Option ℕ) → List (Option (ℕ × ℕ)) → ℕ → ℕ → ℕ → Relaxed → List (Option (ℕ × ℕ))
links_after labels links from edge into (At arrival) = if is_earlier arrival (second_at labels into) then slice_set links into (Some (from, edge)) else links
links_after labels links from edge into NoWay = links
links_after labels links from edge into Long = links

abbrev pub long_by : Relaxed → Option Call → Option Call
long_by (At arrival) call = None
long_by NoWay call = None
long_by Long call = call

-- the call over an edge from one place to another that may be made, unless it can't make the other's label earlier
abbrev pub call_into : HierarchyValue → (ℕ → ℕ → Bool) → List (Option ℕ) → Option ℕ → Dir → ℕ → ℕ → Option Call
call_into h allows labels edge dir from into = call_unless h (second_at labels into) (call_if h (allows into) (call_at edge dir (second_at labels from)))

abbrev pub IfSecond : Option ℕ → (ℕ → Type 0) → Type 0
IfSecond None Fact = Unit {0}
IfSecond (Some second) Fact = Fact second

-- the label that a rank gives another upwards
abbrev pub up_into : HierarchyValue → Sweep → ℕ → ℕ → Option Label
up_into h q y x = label_over h (number_from 0 h.edges x y) Up (up_label h q.from q.second x)

-- the upward label of a rank after the calls from these ranks
abbrev pub up_after : HierarchyValue → Sweep → List ℕ → ℕ → Option Label
up_after h q done y = up_label_from h q.from q.second done y

-- each rank that the query passes has its upward label after the calls from these ranks
abbrev pub IsUpSwept : HierarchyValue → Led → List ℕ → List (Option ℕ) → List (Option (ℕ × ℕ)) → Type 0
IsUpSwept h q done labels links = (y : ℕ) → IsPassed h (sweep_of q) y → HoldsMade h q labels links y (made_up_after h q done y)

-- the label that a higher rank gives another downwards
abbrev pub down_into : HierarchyValue → Sweep → ℕ → ℕ → Option Label
down_into h q x y = label_over h (number_from 0 h.edges x y) Down (down_label h q.from q.second y)

-- the downward label of a rank after the calls from these ranks
abbrev pub down_after : HierarchyValue → Sweep → List ℕ → ℕ → Option Label
down_after h q part x = down_label_from h q.from q.second part x

-- the upward labels are final, and so are the downward labels of these ranks
pub record IsDownSwept (h : HierarchyValue) (q : Led) (done : List ℕ) (labels : List (Option ℕ)) (links : List (Option (ℕ × ℕ))) : Type 0 where
  pub up : (y : ℕ) → IsPassed h (sweep_of q) y → HoldsMade h q labels links y (up_made h q y)
  pub down : (x : ℕ) → Contains done x → HoldsMade h q labels links (h.network.nodes + x) (down_made h q x)

-- a downward label that begins as the upward one is linked from it, where there is one
abbrev pub begun_links : List (Option (ℕ × ℕ)) → ℕ → ℕ → Option ℕ → List (Option (ℕ × ℕ))
begun_links links from into None = links
begun_links links from into (Some second) = slice_set links into (Some (from, 0))

-- the calls to a rank are made, or ended with one whose walk is too long
pub record IsRankDown (h : HierarchyValue) (q : Led) (x : ℕ) (done : List ℕ) (before now : Option (List Call)) (labels : List (Option ℕ))
    (links : List (Option (ℕ × ℕ))) (long : Option Call) : Type 0 where
  pub ended : long ≡ first_long h (down_made_to h q x)
  pub told : AddsAll before now (until_long h (down_made_to h q x))
  pub swept : long ≡ None → IsDownSwept h q (done ++ (x ∷ [])) labels links

-- the upward sweep over these ranks is done, or ended with a call whose walk is too long
pub record IsUpOver (h : HierarchyValue) (q : Led) (done : List ℕ) (before now : Option (List Call)) (labels : List (Option ℕ)) (links : List (Option (ℕ × ℕ))) (long : Option Call) : Type 0 where
  pub ended : long ≡ first_long h (up_calls_of h q done)
  pub told : AddsAll before now (until_long h (up_calls_of h q done))
  pub swept : long ≡ None → IsUpSwept h q done labels links

-- the downward sweep over these ranks is done, or ended with a call whose walk is too long
pub record IsDownOver (h : HierarchyValue) (q : Led) (done : List ℕ) (before now : Option (List Call)) (labels : List (Option ℕ))
    (links : List (Option (ℕ × ℕ))) (long : Option Call) : Type 0 where
  pub ended : long ≡ first_long h (down_calls_of h q done)
  pub told : AddsAll before now (until_long h (down_calls_of h q done))
  pub swept : long ≡ None → IsDownSwept h q done labels links

-- what is found by the end's second
abbrev pub answer_by : Option ℕ → Found
answer_by None = NoWalk
answer_by (Some second) = Arrive second
