-- Functions of lists as packed runs: which lists are known, with which function, and what may be asked for on the way to one.
use Rattle.std.specs.Prelude.{ℕ, List, [], ◌∷◌, Bool, true, false, Option, Some, None, ◌≡◌, ◌≢◌, ◌-◌, ◌*◌, ◌⊎◌, length, slice_get, slice_set}
use Rattle.std.specs.List.{Contains}
use Rattle.cu_model.specs.Days.{day, IsOnward}
use Rattle.cu_arrival.specs.declared.runs.Run.{Run}
use Rattle.cu_arrival.specs.Runs.{arrival_value}
use Rattle.cu_chordal.specs.declared.graph.Ends.{Ends}
use Rattle.cu_runs.specs.declared.packed_runs.TheConstants.{MAX_NUMBER}
use Rattle.cu_runs.specs.Layers.{value_kept}
use Rattle.cu_runs.specs.Travels.{TakeLonger}
use Rattle.cu_runs.specs.PackedRuns.{IsPackedFunction}
use Rattle.cu_interval.specs.declared.ways.Dir.{Dir}
use Rattle.cu_interval.specs.declared.ways.Dir.TheVariants.{Up, Down}
use Rattle.cu_interval.specs.declared.ways.Entry.{Entry}
use Rattle.cu_interval.specs.declared.ways.Way.{Way}
use Rattle.cu_interval.specs.declared.ways.Way.TheVariants.{Road, Via}
use Rattle.cu_interval.specs.Hierarchies.{HierarchyValue, list_number, list_of, start_of, end_of}
use Rattle.cu_interval.specs.Resettling.{rebuilt}

-- which lists are known, and the functions of these, by the number of the list
pub record PackedValue : Type 0 where
  pub known : List Bool
  pub functions : List (Option (List Run))

-- they are those of so many edges
pub record IsSized (edges : ℕ) (value : PackedValue) : Type 0 where
  pub known : length value.known ≡ 2 * edges
  pub functions : length value.functions ≡ 2 * edges

-- the list with this number is known
abbrev pub IsKnownList : PackedValue → ℕ → Type 0
IsKnownList value number = slice_get value.known number ≡ Some true

-- the list with this number is known from then on, with this function, and all else is as it was
abbrev pub with_list : PackedValue → ℕ → Option (List Run) → PackedValue
with_list value number function = record {
  known = slice_set value.known number true;
  functions = slice_set value.functions number function;
}

-- the packed runs of the function of an edge in a direction: none where its list is empty, else with the rebuilt values
abbrev pub IsRebuiltRuns : HierarchyValue → ℕ → Dir → Option (List Run) → Type 0
IsRebuiltRuns h edge dir None = list_of h edge dir ≡ []
IsRebuiltRuns h edge dir (Some packed) = (list_of h edge dir ≢ []) × IsPackedFunction packed × IsOnward (arrival_value packed)
    × ((ends : Ends) → slice_get h.edges edge ≡ Some ends → (t : ℕ) → rebuilt h (start_of ends dir) (end_of ends dir) t ≡ Some (arrival_value packed t))

-- the function of each known list of such an edge is that of its list in this hierarchy
abbrev pub KeepsPacked : HierarchyValue → (ℕ → Type 0) → PackedValue → Type 0
KeepsPacked h IsOwn value = (edge : ℕ) (dir : Dir) → IsOwn edge → IsKnownList value (list_number edge dir)
    → (function : Option (List Run)) → slice_get value.functions (list_number edge dir) ≡ Some function → IsRebuiltRuns h edge dir function

-- an edge and one of a middle below to an end of it, where the middle is joined to both
pub record IsSide (edges : List Ends) (edge side : ℕ) : Type 0 where
  pub ends : Ends
  pub at : slice_get edges edge ≡ Some ends
  pub middle : ℕ
  pub first : ℕ
  pub to_low : slice_get edges first ≡ Some (record { low = middle; high = ends.low })
  pub second : ℕ
  pub to_high : slice_get edges second ≡ Some (record { low = middle; high = ends.high })
  pub either : (side ≡ first) ⊎ (side ≡ second)

-- each edge of a chain is a side of the one before
abbrev pub IsChain : List Ends → ℕ → List ℕ → ℕ → Type 0
IsChain edges edge [] last = edge ≡ last
IsChain edges edge (side ∷ chain) last = IsSide edges edge side × IsChain edges side chain last

-- an edge whose functions those of another may be made of, or that edge itself: some chain of sides leads there
abbrev pub IsNeeded : List Ends → ℕ → ℕ → Type 0
IsNeeded edges edge other = (chain : List ℕ) × IsChain edges edge chain other

-- with an edge both sides of each middle are among these
abbrev pub IsClosedUnder : List Ends → (ℕ → Type 0) → Type 0
IsClosedUnder edges IsOwn = (edge side : ℕ) → IsOwn edge → IsSide edges edge side → IsOwn side

-- the list with this number is as it was
abbrev pub IsSameList : PackedValue → PackedValue → ℕ → Type 0
IsSameList before now number = (slice_get now.known number ≡ slice_get before.known number) × (slice_get now.functions number ≡ slice_get before.functions number)

-- the list with this number isn't known, and has no function
abbrev pub IsForgotten : PackedValue → ℕ → Type 0
IsForgotten value number = (slice_get value.known number ≡ Some false) × (slice_get value.functions number ≡ Some None)

-- each list is as it was, or it isn't known any more
pub record AreSpared (before now : PackedValue) : Type 0 where
  pub known : length now.known ≡ length before.known
  pub functions : length now.functions ≡ length before.functions
  pub each : (number : ℕ) → IsSameList before now number ⊎ IsForgotten now number

-- the list of an edge in a direction wasn't known and now is, with its function; and what is asked for needs it
pub record IsLearned (h : HierarchyValue) (asked edge : ℕ) (dir : Dir) (before now : PackedValue) : Type 0 where
  pub needed : IsNeeded h.edges asked edge
  pub unknown : IsKnownList before (list_number edge dir) → ⊥
  pub known : IsKnownList now (list_number edge dir)
  pub function : Option (List Run)
  pub at : slice_get now.functions (list_number edge dir) ≡ Some function
  pub rebuilt : IsRebuiltRuns h edge dir function

-- so it is with each list that isn't as it was
abbrev pub Learns : HierarchyValue → ℕ → PackedValue → PackedValue → Type 0
Learns h asked before now = (edge : ℕ) (dir : Dir) → IsSameList before now (list_number edge dir) ⊎ IsLearned h asked edge dir before now

-- the function of the list of an edge in a direction, none where it has none
abbrev pub function_at : PackedValue → ℕ → Dir → Option (ℕ → ℕ)
function_at value edge dir = value_kept (slice_get value.functions (list_number edge dir))

-- the halves of an edge in a direction at a middle are known, and take so long that, with a day more, packed runs can't say it
pub record HasFarHalves (h : HierarchyValue) (value : PackedValue) (edge : ℕ) (dir : Dir) (middle : ℕ) : Type 0 where
  pub ends : Ends
  pub at : slice_get h.edges edge ≡ Some ends
  pub first : ℕ
  pub to : slice_get h.edges first ≡ Some (record { low = middle; high = start_of ends dir })
  pub first_known : IsKnownList value (list_number first Down)
  pub second : ℕ
  pub onward : slice_get h.edges second ≡ Some (record { low = middle; high = end_of ends dir })
  pub second_known : IsKnownList value (list_number second Up)
  pub longer : TakeLonger (MAX_NUMBER - day) (function_at value first Down) (function_at value second Up)

-- a way is by such a middle
abbrev pub IsFarWay : HierarchyValue → PackedValue → ℕ → Dir → Way → Type 0
IsFarWay h value edge dir (Road a) = ⊥
IsFarWay h value edge dir (Via middle) = HasFarHalves h value edge dir middle

-- some way of the list of an edge in a direction is
abbrev pub IsFarList : HierarchyValue → PackedValue → ℕ → Dir → Type 0
IsFarList h value edge dir = (entry : Entry) × Contains (list_of h edge dir) entry × IsFarWay h value edge dir entry.way

-- some way of some list that an edge needs is
abbrev pub NeedsFarList : HierarchyValue → ℕ → PackedValue → Type 0
NeedsFarList h asked value = (edge : ℕ) × (dir : Dir) × IsNeeded h.edges asked edge × IsFarList h value edge dir
