-- What a list drives, and when a function says it.
use Rattle.std.specs.Prelude.{ℕ, List, [], Option, Some, None, ◌≡◌, ◌≤◌, ◌<◌, ◌+◌, ◌++◌, ◌∷◌, ◌⊎◌, slice_get}
use Rattle.cu_model.specs.Days.{day}
use Rattle.cu_model.specs.Roads.{arc_value}
use Rattle.cu_arrival.specs.declared.runs.Run.{Run}
use Rattle.cu_arrival.specs.declared.runs.RunRule.{RunRule}
use Rattle.cu_arrival.specs.declared.runs.RunRule.TheVariants.{Shift, Fixed}
use Rattle.cu_arrival.specs.Runs.{arrives}
use Rattle.cu_runs.specs.PackedRuns.{IsPackedFunction, end_run}
use Rattle.cu_model.proofs.Growing.{IsGrown}
use Rattle.cu_chordal.specs.declared.graph.Ends.{Ends}
use Rattle.cu_interval.specs.declared.ways.Dir.{Dir}
use Rattle.cu_interval.specs.declared.ways.Dir.TheVariants.{Up, Down}
use Rattle.cu_interval.specs.declared.ways.Way.{Way}
use Rattle.cu_interval.specs.declared.ways.Way.TheVariants.{Road, Via}
use Rattle.cu_interval.specs.declared.relaxing.Relaxed.{Relaxed}
use Rattle.cu_interval.specs.declared.relaxing.Relaxed.TheVariants.{At, NoWay, Long}
use Rattle.cu_interval.specs.Hierarchies.{HierarchyValue, end_of, start_of}
use Rattle.cu_interval.specs.declared.ways.Entry.{Entry}
use Rattle.cu_interval.specs.declared.shortcuts.Shortcut.{Shortcut}
use Rattle.cu_interval.specs.Hierarchies.{IsWellFormed}
use Rattle.cu_interval.specs.Shortcuts.{AreHalves, number_of, ways_of}
use Rattle.cu_interval.specs.Unpacking.{relaxed}
use Rattle.cu_brief.specs.BriefRuns.{brief_value}
use Rattle.cu_store.specs.Known.{HasNoRuns, IsLeftOut, KnownFunction, StoreValue}
use Rattle.cu_filling.specs.declared.making.Made.{Made}
use Rattle.cu_filling.specs.declared.making.Made.TheVariants as made

-- the second of an answer; 0 where there is none
abbrev pub second_of : Relaxed → ℕ
second_of (At arrival) = arrival
second_of NoWay = 0
second_of Long = 0

-- when relaxing a list arrives
abbrev pub list_drive : HierarchyValue → ℕ → Dir → ℕ → ℕ
list_drive h edge dir t = second_of (relaxed h edge dir t)

-- the halves of an edge in a direction at a middle, and when the second one arrives, leaving when the first does
pub record DrivesVia (h : HierarchyValue) (ends : Ends) (dir : Dir) (m t arrival : ℕ) : Type 0 where
  pub first : ℕ
  pub to : slice_get h.edges first ≡ Some (record { low = m; high = start_of ends dir })
  pub second : ℕ
  pub on : slice_get h.edges second ≡ Some (record { low = m; high = end_of ends dir })
  pub between : ℕ
  pub arrives : relaxed h first Down t ≡ At between
  pub goes_on : relaxed h second Up between ≡ At arrival

-- when a way of an edge in a direction arrives: as its road is driven, or along both halves
abbrev pub DrivesBy : HierarchyValue → Ends → Dir → ℕ → Way → ℕ → Type 0
DrivesBy h ends dir t (Road a) arrival = arc_value h.network a t ≡ arrival
DrivesBy h ends dir t (Via m) arrival = DrivesVia h ends dir m t arrival

-- runs in which no neighbours have one rule, and that say a function at each second before this one
abbrev pub SaysUpTo : (ℕ → ℕ) → List Run → ℕ → Type 0
SaysUpTo f runs t = IsGrown (λ (r : Run). r.from) (λ (r : Run). r.rule) (λ (rule : RunRule) (s : ℕ). arrives rule s ≡ f s) runs t

-- when a second function arrives, leaving when a first one does
abbrev pub linked_value : ℕ → List ℕ → ℕ → List ℕ → ℕ → ℕ
linked_value first_base first second_base second t = brief_value second_base second (brief_value first_base first t)

-- what a rule says after so many seconds: what is fixed arrives on the day that begins at midnight
abbrev pub behind_rule : RunRule → ℕ → ℕ → RunRule
behind_rule (Shift more) seconds midnight = Shift (seconds + more)
behind_rule (Fixed arrival) seconds midnight = Fixed (midnight + arrival)

-- a well-formed way of a shortcut
abbrev pub IsWayOf : HierarchyValue → Shortcut → Way → Type 0
IsWayOf h shortcut way = (ends : Ends) × (slice_get h.edges shortcut.edge ≡ Some ends) × IsWellFormed h (start_of ends shortcut.dir) (end_of ends shortcut.dir) way

-- from one second of the day until another a function says when a way of a shortcut arrives
abbrev pub IsDrivenBy : HierarchyValue → Shortcut → Way → ℕ → ℕ → (ℕ → ℕ) → Type 0
IsDrivenBy h shortcut way from until f = (ends : Ends) → slice_get h.edges shortcut.edge ≡ Some ends → (t arrival : ℕ) → from ≤ t → t < until
    → DrivesBy h ends shortcut.dir t way arrival → arrival ≡ f t

-- the second from which an entry holds, and the end of the day behind the last one
abbrev pub from_of : Option Entry → ℕ
from_of None = day
from_of (Some entry) = entry.from

abbrev pub begin_at : List Entry → ℕ → ℕ
begin_at entries index = from_of (slice_get entries index)

-- runs that say what a shortcut's list drives over the day, with their end
abbrev pub SaysWhole : HierarchyValue → Shortcut → List Run → Type 0
SaysWhole h shortcut whole = (runs : List Run) × (whole ≡ runs ++ end_run ∷ []) × SaysUpTo (list_drive h shortcut.edge shortcut.dir) runs day

-- no function is known of a shortcut's list
abbrev pub IsUnknown : List (Option (Option KnownFunction)) → Shortcut → Type 0
IsUnknown known shortcut = HasNoRuns (slice_get known (number_of shortcut))

-- a way of a shortcut by a middle, of which one half has no function that is known
abbrev pub LacksHalf : HierarchyValue → List (Option (Option KnownFunction)) → Shortcut → Way → Type 0
LacksHalf h known shortcut (Road a) = ⊥
LacksHalf h known shortcut (Via m) = (first second : Shortcut) × AreHalves h shortcut m first second × (IsUnknown known first ⊎ IsUnknown known second)

-- some way of its list is
abbrev pub HasLackingWay : HierarchyValue → List (Option (Option KnownFunction)) → Shortcut → Type 0
HasLackingWay h known shortcut = (index : ℕ) × (entry : Entry) × (slice_get (ways_of h shortcut) index ≡ Some entry) × LacksHalf h known shortcut entry.way

-- what the list drives over the day is no function that can be linked: a later departure arrives earlier
abbrev pub IsOutOfOrder : HierarchyValue → Shortcut → Type 0
IsOutOfOrder h shortcut = (whole : List Run) × SaysWhole h shortcut whole × (IsPackedFunction whole → ⊥)

-- or there is no room for it
abbrev pub HasNoRoom : HierarchyValue → Shortcut → StoreValue → Type 0
HasNoRoom h shortcut store = (whole : List Run) × SaysWhole h shortcut whole × IsLeftOut store whole

-- something is known of it
abbrev pub IsSomething : List (Option (Option KnownFunction)) → Shortcut → Type 0
IsSomething known shortcut = (function : Option KnownFunction) × (slice_get known (number_of shortcut) ≡ Some (Some function))

-- what making a list came to
abbrev pub IsMade : HierarchyValue → Shortcut → StoreValue → StoreValue → Made → Type 0
IsMade h shortcut old new made.Known = IsSomething new.known shortcut
IsMade h shortcut old new made.NoHalf = (new ≡ old) × HasLackingWay h old.known shortcut
IsMade h shortcut old new made.OutOfOrder = (new ≡ old) × IsOutOfOrder h shortcut
IsMade h shortcut old new made.NoRoom = (new ≡ old) × HasNoRoom h shortcut old
