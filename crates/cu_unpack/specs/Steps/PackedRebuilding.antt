-- How functions of shortcuts are rebuilt as packed runs: which are known, and what a merger holds of the first ways of a list.
use Rattle.std.specs.Prelude.{ℕ, suc, List, [], ◌∷◌, Bool, true, false, Option, Some, All, ◌≡◌, ◌≤◌, ◌<◌, length, min, slice_get}
use Rattle.cu_model.specs.Days.{day, IsOnward}
use Rattle.cu_arrival.specs.declared.runs.Run.{Run}
use Rattle.cu_arrival.specs.Runs.{arrival_value}
use Rattle.cu_chordal.specs.declared.graph.Ends.{Ends}
use Rattle.cu_runs.specs.declared.merging.TheConstants.{MOST}
use Rattle.cu_runs.specs.declared.packed_runs.TheConstants.{MAX_NUMBER}
use Rattle.cu_runs.specs.Least.{Held, least_arrival}
use Rattle.cu_runs.specs.PackedRuns.{IsPackedFunction}
use Rattle.cu_interval.specs.declared.ways.Entry.{Entry}
use Rattle.cu_interval.specs.declared.ways.Way.{Way}
use Rattle.cu_interval.specs.Hierarchies.{HierarchyValue, start_of, end_of}
use Rattle.cu_interval.specs.Resettling.{least_in}
use Rattle.cu_interval.specs.declared.shortcuts.Shortcut.{Shortcut}
use Rattle.cu_interval.specs.Shortcuts.{number_of}
use Rattle.cu_unpack.specs.RebuiltRuns.{IsFarList, IsKnownList, IsNeeded, IsRebuiltRuns, PackedValue, with_list}
use Rattle.cu_unpack.specs.Steps.Rebuilding.{IsMissing, way_value}

-- each list has a place among those that are kept, and no two share one that isn't the first
pub record HavePlaces (places : List ℕ) (kept : List (Option (List Run))) : Type 0 where
  pub inside : All (λ place. place < length kept) places
  pub own : (i j place : ℕ) → slice_get places i ≡ Some (suc place) → slice_get places j ≡ Some (suc place) → i ≡ j

-- the list of a shortcut is known
abbrev pub IsKnown : PackedValue → Shortcut → Type 0
IsKnown value shortcut = IsKnownList value (number_of shortcut)

-- a shortcut has a function
abbrev pub HasPacked : PackedValue → Shortcut → Type 0
HasPacked value shortcut = (packed : List Run) × (slice_get value.functions (number_of shortcut) ≡ Some (Some packed))

-- a shortcut with a way that isn't known, and that what is asked for needs
abbrev pub IsUnknown : HierarchyValue → ℕ → PackedValue → Shortcut → Type 0
IsUnknown h asked value shortcut = IsMissing h (IsKnown value) shortcut × IsNeeded h.edges asked shortcut.edge

-- one more list is known, that of the shortcut
abbrev pub LearnsOne : HierarchyValue → Shortcut → PackedValue → PackedValue → Type 0
LearnsOne h shortcut before now =
    (function : Option (List Run)) × (now ≡ with_list before (number_of shortcut) function) × IsRebuiltRuns h shortcut.edge shortcut.dir function

-- so it is, or all is as it was, where a way takes longer than packed runs can say
abbrev pub LearnsIf : HierarchyValue → Shortcut → PackedValue → PackedValue → Bool → Type 0
LearnsIf h shortcut before now true = LearnsOne h shortcut before now
LearnsIf h shortcut before now false = (now ≡ before) × IsFarList h before shortcut.edge shortcut.dir

-- the function of staying
pub record IsStay (packed : List Run) : Type 0 where
  pub function : IsPackedFunction packed
  pub stays : (t : ℕ) → t < day → arrival_value packed t ≡ t

-- no arrival before its departure, and none later than packed runs can say
abbrev pub IsInTime : ℕ → ℕ → Type 0
IsInTime t arrival = (t ≤ arrival) × (arrival ≤ MAX_NUMBER)

-- a candidate that arrives like this is added
abbrev pub Adds : (ℕ → ℕ) → List Held → List Held → Type 0
Adds value before now = (t : ℕ) → t < day → IsInTime t (value t) × (least_arrival now t ≡ min (least_arrival before t) (value t))

-- a way of a shortcut is added
abbrev pub AddsWay : HierarchyValue → Shortcut → Way → List Held → List Held → Type 0
AddsWay h shortcut way before now = (value : ℕ → ℕ) × Adds value before now
    × ((ends : Ends) → slice_get h.edges shortcut.edge ≡ Some ends → (t : ℕ) → t < day → way_value h (start_of ends shortcut.dir) (end_of ends shortcut.dir) t way ≡ Some (value t))

-- what is held are the least values of these ways of a shortcut; nobody's where there is none
abbrev pub HoldsLeast : HierarchyValue → Shortcut → List Entry → List Held → Type 0
HoldsLeast h shortcut [] held = (t : ℕ) → t < day → least_arrival held t ≡ MOST
HoldsLeast h shortcut (entry ∷ entries) held = (ends : Ends) → slice_get h.edges shortcut.edge ≡ Some ends → (t : ℕ) → t < day
    → (least_in (way_value h (start_of ends shortcut.dir) (end_of ends shortcut.dir) t) (entry ∷ entries) ≡ Some (least_arrival held t)) × IsInTime t (least_arrival held t)

-- the least that is held, as a function
pub record IsLeastRuns (held : List Held) (packed : List Run) : Type 0 where
  pub function : IsPackedFunction packed
  pub onward : IsOnward (arrival_value packed)
  pub value : (t : ℕ) → t < day → arrival_value packed t ≡ least_arrival held t
