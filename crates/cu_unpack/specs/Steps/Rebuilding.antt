-- How functions of shortcuts are rebuilt: which are kept, which wait for a half, and the function of the first ways of a list.
use Rattle.std.specs.Prelude.{ℕ, List, [], ◌∷◌, ◌++◌, Option, Some, None, ◌≡◌, ◌≢◌, ◌<◌, ◌*◌, ◌⊎◌, All, min, length, slice_get, slice_set, option_map}
use Rattle.cu_model.specs.Days.{day}
use Rattle.cu_arrival.specs.declared.runs.Run.{Run}
use Rattle.cu_arrival.specs.Runs.{IsArrivalFunction, arrival_value}
use Rattle.cu_chordal.specs.declared.graph.Ends.{Ends}
use Rattle.cu_interval.specs.declared.shortcuts.Shortcut.{Shortcut}
use Rattle.cu_interval.specs.declared.ways.Way.{Way}
use Rattle.cu_interval.specs.declared.ways.Way.TheVariants.{Road, Via}
use Rattle.cu_interval.specs.declared.ways.Entry.{Entry}
use Rattle.cu_interval.specs.Hierarchies.{HierarchyValue, IsWellFormed, start_of, end_of}
use Rattle.cu_interval.specs.Resettling.{least_in, lesser_of, rebuilt_by, value_by}
use Rattle.cu_interval.specs.Shortcuts.{AreHalves, number_of, ways_of}
use Rattle.cu_unpack.specs.Rebuilds.{IsRebuiltFunction, Keeps}
use Rattle.cu_unpack.specs.RebuiltRuns.{IsSide}

-- functions by the number of their list, for all lists of the hierarchy, each that of its list
abbrev pub AreKept : HierarchyValue → List (Option (List Run)) → Type 0
AreKept h kept = (length kept ≡ 2 * length h.edges) × Keeps h (record { kept = kept })

-- one more function is kept, that of the shortcut
abbrev pub KeepsOne : HierarchyValue → Shortcut → List (Option (List Run)) → List (Option (List Run)) → Type 0
KeepsOne h shortcut before now =
    (runs : List Run) × (now ≡ slice_set before (number_of shortcut) (Some runs)) × IsRebuiltFunction h shortcut.edge shortcut.dir (Some runs)

-- a shortcut of some edge, with a way
abbrev pub HasWays : HierarchyValue → Shortcut → Type 0
HasWays h shortcut = (shortcut.edge < length h.edges) × (ways_of h shortcut ≢ [])

-- the same, which isn't there
abbrev pub IsMissing : HierarchyValue → (Shortcut → Type 0) → Shortcut → Type 0
IsMissing h IsThere shortcut = HasWays h shortcut × (IsThere shortcut → ⊥)

-- a well-formed way of a shortcut
abbrev pub IsWayOf : HierarchyValue → Shortcut → Way → Type 0
IsWayOf h shortcut way = (ends : Ends) × (slice_get h.edges shortcut.edge ≡ Some ends)
    × IsWellFormed h (start_of ends shortcut.dir) (end_of ends shortcut.dir) way

-- both halves of a way are there, if it has a middle
abbrev pub HasHalves : HierarchyValue → (Shortcut → Type 0) → Shortcut → Way → Type 0
HasHalves h IsThere shortcut (Road a) = Unit {0}
HasHalves h IsThere shortcut (Via m) = (first second : Shortcut) → AreHalves h shortcut m first second → IsThere first × IsThere second

-- a half of a shortcut that isn't there, of a lower edge
pub record IsMissingHalf (h : HierarchyValue) (IsThere : Shortcut → Type 0) (whole half : Shortcut) : Type 0 where
  pub missing : IsMissing h IsThere half
  pub lower : half.edge < whole.edge
  pub side : IsSide h.edges whole.edge half.edge

-- such a half of the way; none where it has all
abbrev pub FindsHalf : HierarchyValue → (Shortcut → Type 0) → Shortcut → Way → Option Shortcut → Type 0
FindsHalf h IsThere shortcut way None = HasHalves h IsThere shortcut way
FindsHalf h IsThere shortcut way (Some half) = IsMissingHalf h IsThere shortcut half

-- the same of all ways of a list
abbrev pub FindsMissing : HierarchyValue → (Shortcut → Type 0) → Shortcut → List Entry → Option Shortcut → Type 0
FindsMissing h IsThere shortcut entries None = All (λ (entry : Entry). HasHalves h IsThere shortcut entry.way) entries
FindsMissing h IsThere shortcut entries (Some half) = IsMissingHalf h IsThere shortcut half

-- the last that waits is taken; this shortcut where none waits
abbrev pub Takes : List Shortcut → Shortcut → List Shortcut → Shortcut → Type 0
Takes before shortcut now next = (before ≡ now ++ next ∷ []) ⊎ ((before ≡ []) × (now ≡ []) × (next ≡ shortcut))

-- when a way from u to v arrives, by the rebuilt values of its halves, whose lower ends are below both
abbrev pub way_value : HierarchyValue → ℕ → ℕ → ℕ → Way → Option ℕ
way_value h u v t way = value_by h.network (rebuilt_by h (min u v)) u v t way

-- a function has these values over the day
abbrev pub HasValues : List Run → (ℕ → Option ℕ) → Type 0
HasValues runs value = (t : ℕ) → t < day → value t ≡ Some (arrival_value runs t)

-- the values of a way of a shortcut
abbrev pub IsWayFunction : HierarchyValue → Shortcut → Way → List Run → Type 0
IsWayFunction h shortcut way runs = (ends : Ends) → slice_get h.edges shortcut.edge ≡ Some ends
    → HasValues runs (λ t. way_value h (start_of ends shortcut.dir) (end_of ends shortcut.dir) t way)

-- the least values of these ways of a shortcut; none where there is no way
abbrev pub IsLeastOf : HierarchyValue → Shortcut → List Entry → Option (List Run) → Type 0
IsLeastOf h shortcut entries None = entries ≡ []
IsLeastOf h shortcut entries (Some runs) = (entries ≢ []) × IsArrivalFunction runs
    × ((ends : Ends) → slice_get h.edges shortcut.edge ≡ Some ends
    → HasValues runs (λ t. least_in (way_value h (start_of ends shortcut.dir) (end_of ends shortcut.dir) t) entries))

-- a way is one of the first so many entries'
abbrev pub IsAmong : List Entry → ℕ → Way → Type 0
IsAmong entries count way = (index : ℕ) × (entry : Entry) × (index < count) × (slice_get entries index ≡ Some entry) × (entry.way ≡ way)

-- the value of a function, if there is one
abbrev pub value_in : Option (List Run) → ℕ → Option ℕ
value_in function t = option_map (λ runs. arrival_value runs t) function

-- the earlier of two functions, or the second alone
abbrev pub IsEarlier : Option (List Run) → List Run → List Run → Type 0
IsEarlier first second earlier = IsArrivalFunction earlier × HasValues earlier (λ t. lesser_of (value_in first t) (Some (arrival_value second t)))
