-- A walk that is written road by road: the list that is next, those that wait behind it, and what is read of each.
use Rattle.std.specs.Prelude.{ℕ, List, [], ◌∷◌, ◌++◌, Option, Some, None, ◌≡◌, ◌≢◌, ◌≤◌, ◌<◌, ◌+◌, ◌*◌, All, IfSome, false, length, min, slice_get, slice_set}
use Rattle.cu_model.specs.declared.limits.TheConstants.{MAX_UNTIL}
use Rattle.cu_model.specs.Days.{day}
use Rattle.cu_model.specs.Networks.{NetworkValue}
use Rattle.cu_model.specs.Roads.{drive, is_closed_arc}
use Rattle.cu_interval.specs.declared.shortcuts.Leg.{Leg}
use Rattle.cu_interval.specs.Hierarchies.{HierarchyValue, IsHierarchy, graph_of, list_from}
use Rattle.cu_interval.specs.Unpacking.{unpacked_walk}
use Rattle.cu_unpack.specs.Steps.Legs.{walk_on}
use Rattle.cu_recall.specs.declared.pending.Asked.{Asked}
use Rattle.cu_recall.specs.declared.spans.Row.{Row}
use Rattle.cu_recall.specs.declared.walking.Glance.{Glance}
use Rattle.cu_recall.specs.declared.walking.Ground.{Ground}
use Rattle.cu_recall.specs.declared.walking.NextPart.{NextPart}
use Rattle.cu_recall.specs.declared.walking.WalkPart.{WalkPart}
use Rattle.cu_recall.specs.declared.walking.WalkPart.TheVariants as part
use Rattle.cu_recall.specs.declared.walking.WalkSpot.{WalkSpot}
use Rattle.cu_recall.specs.Spans.{HoldsMet, IsListFrom, Knows, WalkTakes, met_of}
use Rattle.cu_recall.specs.Steps.Looks.{IsAsked}
use Rattle.cu_sequences.specs.Kept.{AreSequences}
use Rattle.cu_store.specs.Known.{Knows as KnowsFunctions}

-- what walks are written over: a sound hierarchy with its graph, and what is known of its lists, which is so of it
pub record IsGround (ground : Ground) : Type 0 where
  pub sound : IsHierarchy ground.view.now
  pub graph : ground.graph.now ≡ graph_of ground.view.now
  pub sequences : AreSequences ground.view.now ground.sequences.now
  pub size : length ground.store.now.known ≡ 2 * length ground.view.now.edges
  pub knows : KnowsFunctions ground.view.now ground.store.now.known

-- a list that is asked, whose walk has fewer roads than there are nodes
abbrev pub IsShortWalk : HierarchyValue → Asked → Type 0
IsShortWalk h asked = IsAsked h asked × ((u v : ℕ) → IsListFrom h asked.list u v → length (unpacked_walk h u v asked.second) < h.network.nodes)

-- what was read of a list, and of one below it, is so
abbrev pub HoldsGlance : HierarchyValue → Glance → Type 0
HoldsGlance h glance = HoldsMet h glance.list (met_of glance.met) × HoldsMet h glance.below (met_of glance.below_met)

-- this list is next, at this second, and so many wait
abbrev pub IsNext : ℕ → ℕ → ℕ → WalkSpot → Type 0
IsNext list second waiting spot = (spot.next.list ≡ list) × (spot.second ≡ second) × (spot.waiting ≡ waiting)

-- the list that is next, asked at the second
abbrev pub next_asked : WalkSpot → Asked
next_asked spot = record { list = spot.next.list; second = spot.second }

-- leaving at the second, the list's walk takes so long
abbrev pub HoldsTravel : HierarchyValue → ℕ → ℕ → ℕ → Type 0
HoldsTravel h list second travel = (u v : ℕ) → IsListFrom h list u v → (roads : ℕ) × WalkTakes h u v second travel roads

-- the legs that wait, the next first: each a list upwards, whose lower end leaves room for what waits above it
abbrev pub AreWaiting : HierarchyValue → List Glance → ℕ → List Leg → Type 0
AreWaiting h waiting count [] = count ≡ 0
AreWaiting h waiting count (leg ∷ legs) =
    (below : ℕ) × (glance : Glance) × (count ≡ below + 1) × (slice_get waiting below ≡ Some glance) × HoldsGlance h glance × IsListFrom h glance.list leg.from leg.to
    × (min leg.from leg.to + below + 2 ≤ h.network.nodes) × (list_from h leg.from leg.to ≢ []) × AreWaiting h waiting below legs

-- the leg that is next, and those that wait behind it
pub record IsAt (h : HierarchyValue) (waiting : List Glance) (spot : WalkSpot) (leg : Leg) (legs : List Leg) : Type 0 where
  pub list : IsListFrom h spot.next.list leg.from leg.to
  pub some : list_from h leg.from leg.to ≢ []
  pub early : spot.second < day
  pub holds : HoldsGlance h spot.next
  pub room : min leg.from leg.to + spot.waiting + 2 ≤ h.network.nodes
  pub rest : AreWaiting h waiting spot.waiting legs

-- some legs are next and wait
abbrev pub IsSomewhere : HierarchyValue → List Glance → WalkSpot → Type 0
IsSomewhere h waiting spot = (leg : Leg) × (legs : List Leg) × IsAt h waiting spot leg legs

-- a list waits at a place, with what these rows say of it
abbrev pub Waits : List Row → ℕ → ℕ → List Glance → List Glance → Type 0
Waits rows list place before now =
    (glance : Glance) × (glance.list ≡ list) × ((h : HierarchyValue) → Knows h rows → HoldsGlance h glance) × (now ≡ slice_set before place glance)

-- the last that waits is next, or none waits
abbrev pub Resumes : List Glance → ℕ → ℕ → Option WalkSpot → Type 0
Resumes waiting count second None = count ≡ 0
Resumes waiting count second (Some spot) = (count ≡ spot.waiting + 1) × (slice_get waiting spot.waiting ≡ Some spot.next) × (spot.second ≡ second)

-- the roads of a part of a walk
abbrev pub roads_of : WalkPart → List ℕ
roads_of (part.Road road travel) = road ∷ []
roads_of (part.Sequence roads travel) = roads.now

-- the walk over these legs begins with the part, and goes on with those that wait then
abbrev pub FindsPart : HierarchyValue → Leg → List Leg → ℕ → List Glance → NextPart → Type 0
FindsPart h leg legs t waiting found =
    (rest : List Leg) × AreWaiting h waiting found.waiting rest
    × (walk_on h (leg ∷ legs) t ≡ roads_of found.part ++ walk_on h rest (drive h.network (roads_of found.part) t))
    × (found.waiting ≤ h.network.nodes)

-- a road that is there and isn't closed
abbrev pub IsOpenRoad : NetworkValue → ℕ → Type 0
IsOpenRoad g road = (road < length g.arcs) × (is_closed_arc g road ≡ false)

-- roads take so long at this second of any day
abbrev pub TakesEachDay : NetworkValue → ℕ → List ℕ → ℕ → Type 0
TakesEachDay g t roads travel = (k : ℕ) → drive g roads (k * day + t) ≡ k * day + (t + travel)

-- a road takes as long at this second of any day as is said of it; and so do others, where it is said, and they can be driven
abbrev pub DrivesRoads : HierarchyValue → ℕ → WalkPart → Type 0
DrivesRoads h t (part.Road road travel) = TakesEachDay h.network t (road ∷ []) travel
DrivesRoads h t (part.Sequence roads travel) = All (IsOpenRoad h.network) roads.now × IfSome travel (TakesEachDay h.network t roads.now)

-- whoever enters a part at this second of any day drives over it within its limits
pub record DrivesPart (h : HierarchyValue) (t : ℕ) (found : WalkPart) : Type 0 where
  pub some : 0 < length (roads_of found)
  pub near : drive h.network (roads_of found) t ≤ t + MAX_UNTIL * length (roads_of found)
  pub days : (k : ℕ) → drive h.network (roads_of found) (k * day + t) ≡ k * day + drive h.network (roads_of found) t
  pub roads : DrivesRoads h t found
