-- Candidates that are merged one after the other: which of them is the first least at each second, under which number.
use Rattle.std.specs.Prelude.{ℕ, List, [], ◌∷◌, ◌++◌, Option, Some, None, ◌≡◌, ◌≢◌, ◌≤◌, ◌<◌, ◌+◌, ◌-◌, ◌^◌, ◌⊎◌, All, length, map, max, min, slice_get, take}
use Rattle.std.proofs.Common.{get_or}
use Rattle.std.specs.List.{Contains}
use Rattle.std.specs.List.Sorted.{IsStrictlyIncreasing}
use Rattle.cu_model.specs.declared.limits.TheConstants.{MAX_ARCS}
use Rattle.cu_model.specs.Networks.{NetworkValue}
use Rattle.cu_model.specs.Days.{day}
use Rattle.cu_arrival.specs.declared.runs.Run.{Run}
use Rattle.cu_arrival.specs.Runs.{arrival_value}
use Rattle.cu_chordal.specs.declared.graph.Ends.{Ends}
use Rattle.cu_chordal.specs.Graphs.{FindsEdge, IsChordal}
use Rattle.cu_interval.specs.declared.ways.Entry.{Entry}
use Rattle.cu_interval.specs.declared.ways.Way.{Way}
use Rattle.cu_interval.specs.declared.ways.Way.TheVariants.{Road, Via}
use Rattle.cu_interval.specs.WayLists.{GoesFirst, IsWayList, way_in}
use Rattle.cu_runs.specs.declared.merging.TheConstants.{MOST, NOBODY}
use Rattle.cu_runs.specs.declared.merging.WayRun.{WayRun}
use Rattle.cu_customize.specs.declared.gathering.HalfEdges.{HalfEdges}
use Rattle.cu_customize.specs.declared.gathering.Rank.{Rank}
use Rattle.cu_customize.specs.declared.gathering.Rivals.{Rivals}
use Rattle.cu_interval.specs.declared.shortcuts.Leg.{Leg}
use Rattle.cu_customize.specs.declared.task.Halves.{Halves}
use Rattle.cu_customize.specs.declared.task.Task.{Task}
use Rattle.cu_customize.specs.declared.triangles.Triangle.{Triangle}
use Rattle.cu_runs.specs.declared.packed_runs.TheConstants.{MAX_NUMBER}
use Rattle.cu_runs.specs.declared.windows.TheConstants.{NO_LIMIT, WINDOWS}
use Rattle.cu_runs.specs.declared.windows.Windows.{Windows}
use Rattle.cu_customize.specs.Functions.{FunctionsState, kept_state}
use Rattle.cu_runs.specs.Least.{Held, KeepsDayOrder, least_arrival, least_way}
use Rattle.cu_customize.specs.Settling.{ArrivesBy, HasFarWay, KnowsHalves, function_from}
use Rattle.cu_customize.specs.Steps.Best.{IsOpenAmong, IsOpenWay}
use Rattle.cu_customize.specs.Triangles.{IsTriangle, middles_in}
use Rattle.cu_runs.specs.Windows.{AreEach, IsIn, window_start}
use Rattle.cu_runs.specs.PackedRuns.{IsPackedFunction}

abbrev pub state_of : NetworkValue → Task → FunctionsState
state_of g task = kept_state g task.functions.now

-- the candidates of a list: each has the number of its place among them
abbrev pub ways_of : Task → List Way
ways_of task = map Road task.arcs.now ++ map Via (middles_in task.triangles.now)

abbrev pub IsOpenIn : NetworkValue → Task → List Way → Way → Type 0
IsOpenIn g task ways way = IsOpenAmong task.graph.now.edges (state_of g task) task.leg.from task.leg.to ways way

abbrev pub ArrivesIn : NetworkValue → Task → ℕ → Way → ℕ → Type 0
ArrivesIn g task t way arrival = ArrivesBy task.graph.now.edges (state_of g task) task.leg.from task.leg.to t way arrival

-- no arrival before its departure, and none later than numbers go
abbrev pub IsInTime : ℕ → ℕ → Type 0
IsInTime t arrival = (t ≤ arrival) × (arrival ≤ MAX_NUMBER)

abbrev pub IsNear : NetworkValue → Task → Way → Type 0
IsNear g task way = (t arrival : ℕ) → t < day → ArrivesIn g task t way arrival → IsInTime t arrival

-- some candidate arrives by this second
abbrev pub HasBy : NetworkValue → Task → ℕ → ℕ → Type 0
HasBy g task t by = (way : Way) × IsOpenIn g task (ways_of task) way × ((arrival : ℕ) × ArrivesIn g task t way arrival × (arrival ≤ by))

-- at each second of the day some candidate takes no longer than this, or this is more than any of them takes
abbrev pub IsBound : NetworkValue → Task → ℕ → Type 0
IsBound g task most = (most ≡ 2 ^ 64 - 1) ⊎ ((t : ℕ) → t < day → HasBy g task t (t + most))

-- from one second until another some candidate takes no longer than this, where this is a limit
abbrev pub IsLimit : NetworkValue → Task → ℕ → ℕ → ℕ → Type 0
IsLimit g task from until limit = limit < NO_LIMIT → (t : ℕ) → from ≤ t → t < until → HasBy g task t (t + limit)

-- so in each window
abbrev pub AreLimits : NetworkValue → Task → Windows → List ℕ → Type 0
AreLimits g task windows limits = AreEach (λ window limit. IsLimit g task (window_start windows window) (window_start windows (window + 1)) limit) limits WINDOWS

-- some candidate is earlier than a way at this second
abbrev pub IsBeaten : NetworkValue → Task → ℕ → Way → Type 0
IsBeaten g task t way = (by : ℕ) × HasBy g task t by × ((arrival : ℕ) → ArrivesIn g task t way arrival → by < arrival)

-- one of these ways, which has a function and may be the least at this second
abbrev pub IsRival : NetworkValue → Task → List Way → ℕ → Way → Type 0
IsRival g task ways t way = IsOpenIn g task ways way × (IsBeaten g task t way → ⊥)

-- a way's arrivals are those of a function that keeps order
abbrev pub IsOrdered : NetworkValue → Task → Way → Type 0
IsOrdered g task way = (f : ℕ → ℕ) × KeepsDayOrder f × ((t : ℕ) → t < day → ArrivesIn g task t way (f t))

-- a list may be settled: its candidates are in range, in order and no more than there are numbers for, the halves of each
-- middle are among the functions, and no way by a middle is later than numbers go
pub record IsTask (g : NetworkValue) (task : Task) : Type 0 where
  pub chordal : IsChordal task.graph.now
  pub ranks : (task.leg.from < task.graph.now.ranks) × (task.leg.to < task.graph.now.ranks)
  pub stays : IsPackedFunction task.stay.now
  pub stay : (t : ℕ) → t < day → arrival_value task.stay.now t ≡ t
  pub arcs_rise : IsStrictlyIncreasing task.arcs.now
  pub arcs_few : length task.arcs.now ≤ MAX_ARCS
  pub arcs : All (λ arc. arc < length g.arcs) task.arcs.now
  pub triangles : All (IsTriangle task.graph.now.edges (min task.leg.from task.leg.to) (max task.leg.from task.leg.to)) task.triangles.now
  pub middles_rise : IsStrictlyIncreasing (middles_in task.triangles.now)
  pub below : All (λ middle. (middle < task.leg.from) × (middle < task.leg.to)) (middles_in task.triangles.now)
  pub halves : KnowsHalves task.graph.now.edges (state_of g task) task.leg.from task.leg.to
  pub near : (middle : ℕ) → middle < task.leg.from → middle < task.leg.to → IsNear g task (Via middle)

-- the triangles are those between the ends of its list, which are in range, and the halves of each are among the functions
pub record HasTriangles (g : NetworkValue) (task : Task) : Type 0 where
  pub chordal : IsChordal task.graph.now
  pub triangles : All (IsTriangle task.graph.now.edges (min task.leg.from task.leg.to) (max task.leg.from task.leg.to)) task.triangles.now
  pub below : All (λ middle. (middle < task.leg.from) × (middle < task.leg.to)) (middles_in task.triangles.now)
  pub halves : KnowsHalves task.graph.now.edges (state_of g task) task.leg.from task.leg.to

-- no way by a middle of these triangles is later than numbers go
abbrev pub AreNear : NetworkValue → Task → List Triangle → Type 0
AreNear g task triangles = (middle : ℕ) → Contains (middles_in triangles) middle → IsNear g task (Via middle)

-- some way by a middle may be
abbrev pub IsFar : NetworkValue → Task → Type 0
IsFar g task = HasFarWay task.graph.now.edges (state_of g task) task.leg.from task.leg.to

-- so it is for some network
abbrev pub IsTaskOfSome : Task → Type 0
IsTaskOfSome task = (g : NetworkValue) × IsTask g task

-- a merger's least at a second is that of one of these ways, which arrives as early as each rival and goes first of those that do
pub record IsLeastWay (g : NetworkValue) (task : Task) (IsRival : Way → Type 0) (ways : List Way) (held : List Held) (t : ℕ) (way : Way) : Type 0 where
  pub there : slice_get ways (least_way held t) ≡ Some way
  pub among : IsOpenIn g task ways way
  pub arrives : ArrivesIn g task t way (least_arrival held t)
  pub first : (other : Way) (later : ℕ) → IsRival other → ArrivesIn g task t other later
      → (least_arrival held t < later) ⊎ ((least_arrival held t ≡ later) × ((way ≡ other) ⊎ GoesFirst way other))
  pub near : IsInTime t (least_arrival held t)
  pub order : IsOrdered g task way

-- there is no rival, and the merger's least is nobody's
pub record IsNobodys (IsRival : Way → Type 0) (held : List Held) (t : ℕ) : Type 0 where
  pub closed : (way : Way) → IsRival way → ⊥
  pub arrival : least_arrival held t ≡ MOST
  pub way : least_way held t ≡ NOBODY

abbrev pub IsLeastAt : NetworkValue → Task → (Way → Type 0) → List Way → List Held → ℕ → Type 0
IsLeastAt g task IsOne ways held t = IsNobodys IsOne held t ⊎ ((way : Way) × IsLeastWay g task IsOne ways held t way)

-- so at each second of the day, of all these ways
abbrev pub IsGathered : NetworkValue → Task → List Way → List Held → Type 0
IsGathered g task ways held = (t : ℕ) → t < day → IsLeastAt g task (IsOpenIn g task ways) ways held t

-- so of those of these ways that may be the least then, each under its number among all candidates
abbrev pub IsGatheredBut : NetworkValue → Task → List Way → List Held → Type 0
IsGatheredBut g task ways held = (t : ℕ) → t < day → IsLeastAt g task (IsRival g task ways t) (ways_of task) held t

-- one way more is gathered at a second, whichever were before it
abbrev pub GathersAt : NetworkValue → Task → Way → List Held → List Held → ℕ → Type 0
GathersAt g task way old new t = (ways : List Way)
    → IsLeastAt g task (IsRival g task ways t) (ways_of task) old t → IsLeastAt g task (IsRival g task (ways ++ way ∷ []) t) (ways_of task) new t

-- and at each second of the day
abbrev pub Gathers : NetworkValue → Task → Way → List Held → List Held → Type 0
Gathers g task way old new = (t : ℕ) → t < day → GathersAt g task way old new t

-- where the roads were gathered all candidates are
abbrev pub GathersMiddles : NetworkValue → Task → List Held → List Held → Type 0
GathersMiddles g task old new = IsGatheredBut g task (map Road task.arcs.now) old → IsGathered g task (ways_of task) new

-- a way by a middle is never the least: it has no function, or some candidate is earlier
abbrev pub IsNoRival : NetworkValue → Task → ℕ → Type 0
IsNoRival g task middle = (t : ℕ) → t < day → IsOpenWay task.graph.now.edges (state_of g task) task.leg.from task.leg.to (Via middle) → IsBeaten g task t (Via middle)

-- the edges between a middle and the ends of a list
pub record HasHalves (edges : List Ends) (leg : Leg) (middle : ℕ) (halves : HalfEdges) : Type 0 where
  pub first : FindsEdge edges middle leg.from (Some halves.first)
  pub second : FindsEdge edges middle leg.to (Some halves.second)

-- the functions of both halves of the way by a middle; none where it has no way
abbrev pub FindsHalves : NetworkValue → Task → ℕ → Option Halves → Type 0
FindsHalves g task middle None = IsOpenWay task.graph.now.edges (state_of g task) task.leg.from task.leg.to (Via middle) → ⊥
FindsHalves g task middle (Some halves) = (function_from task.graph.now.edges (state_of g task) task.leg.from middle ≡ Some (arrival_value halves.first.now))
    × (function_from task.graph.now.edges (state_of g task) middle task.leg.to ≡ Some (arrival_value halves.second.now))

-- none where it is never the least, if some candidate takes no longer than this at each second
abbrev pub FindsRival : NetworkValue → Task → ℕ → ℕ → Option Halves → Type 0
FindsRival g task most middle None = IsBound g task most → IsNoRival g task middle
FindsRival g task most middle (Some halves) = FindsHalves g task middle (Some halves)

-- the middle of the triangle with a number
abbrev pub middle_at : Task → ℕ → ℕ
middle_at task i = get_or (middles_in task.triangles.now) i 0

-- what the way by a middle takes at least in each window
abbrev pub IsLower : NetworkValue → Task → Windows → ℕ → List ℕ → Type 0
IsLower g task windows middle lower = AreEach (λ window least.
    (t arrival : ℕ) → IsIn windows window t → ArrivesIn g task t (Via middle) arrival → t + least ≤ arrival) lower WINDOWS

-- a way by the middle of a triangle, with the place of what it takes at least
pub record IsRank (task : Task) (windows : Windows) (lowers : List (List ℕ)) (rank : Rank) : Type 0 where
  pub triangle : rank.triangle < length task.triangles.now
  pub place : rank.place < length lowers
  pub lower : (g : NetworkValue) → IsTask g task → IsLower g task windows (middle_at task rank.triangle) (get_or lowers rank.place [])

abbrev pub AreRanks : Task → Windows → Rivals → Type 0
AreRanks task windows rivals = All (IsRank task windows rivals.lowers.items) rivals.ranks.items

-- the way by the middle of the triangle with this number is among these
abbrev pub HasRank : List Rank → ℕ → Type 0
HasRank ranks i = (rank : Rank) × Contains ranks rank × (rank.triangle ≡ i)

-- of the ways by the middles of the first triangles, so many, all that may be the least somewhere are among these
abbrev pub AreRivals : NetworkValue → Task → List Rank → ℕ → Type 0
AreRivals g task ranks count = (i : ℕ) → i < count → HasRank ranks i ⊎ IsNoRival g task (middle_at task i)

-- the ways by the middles of the first of these, so many
abbrev pub ranked : Task → List Rank → ℕ → List Way
ranked task ranks count = map (λ (rank : Rank). Via (middle_at task rank.triangle)) (take count ranks)

-- the numbers are those of ways, and the arrivals are within their limit
pub record IsWithin (ways : List Way) (held : List Held) : Type 0 where
  pub numbers : (t : ℕ) → t < day → least_way held t < length ways
  pub arrivals : (t : ℕ) → t < day → IsInTime t (least_arrival held t)

-- the runs of the ways that are the least, and the function of their arrivals; none where the least is nobody's
abbrev pub IsPulled : List Way → List Held → List Entry → Option (List Run) → Type 0
IsPulled ways held entries None = (least_way held 0 ≡ NOBODY) × (entries ≡ [])
IsPulled ways held entries (Some packed) = (least_way held 0 ≢ NOBODY) × IsWayList entries × (entries ≢ []) × IsPackedFunction packed
    × ((t : ℕ) → t < day → (way_in entries t ≡ slice_get ways (least_way held t)) × (arrival_value packed t ≡ least_arrival held t))

-- what a run of numbers says of the ways, and what an entry says
abbrev pub read_of : List Way → WayRun → ℕ × Option Way
read_of ways run = (run.from, slice_get ways run.way)

abbrev pub said_by : Entry → ℕ × Option Way
said_by entry = (entry.from, Some entry.way)
