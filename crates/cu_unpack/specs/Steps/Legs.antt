-- Where an unpacking stands: the shortcut that is next, those that wait behind it, and what was driven.
use Rattle.std.specs.Prelude.{ℕ, List, [], ◌∷◌, ◌++◌, Option, Some, None, ◌≡◌, ◌≢◌, ◌≤◌, ◌+◌, ◌*◌, ◌⊎◌, length, min, slice_get, slice_set}
use Rattle.cu_model.specs.declared.limits.TheConstants.{MAX_UNTIL}
use Rattle.cu_model.specs.Roads.{arc_value, drive}
use Rattle.cu_chordal.specs.declared.graph.Ends.{Ends}
use Rattle.cu_interval.specs.declared.shortcuts.Leg.{Leg}
use Rattle.cu_interval.specs.declared.ways.Dir.{Dir}
use Rattle.cu_interval.specs.declared.ways.Dir.TheVariants.{Up, Down}
use Rattle.cu_interval.specs.declared.ways.Way.TheVariants.{Road}
use Rattle.cu_interval.specs.Hierarchies.{HierarchyValue, start_of, end_of, list_from, way_from}
use Rattle.cu_interval.specs.Unpacking.{followed, unpacked_walk}
use Rattle.cu_unpack.specs.declared.unpacking.Spot.{Spot}
use Rattle.cu_unpack.specs.declared.unpacking.Driven.{Driven}

-- the edge in this direction is that of the leg
abbrev pub IsLegOf : HierarchyValue → ℕ → Dir → Leg → Type 0
IsLegOf h edge dir leg = (ends : Ends) × (slice_get h.edges edge ≡ Some ends) × (leg.from ≡ start_of ends dir) × (leg.to ≡ end_of ends dir)

-- the leg's list isn't empty
abbrev pub HasWay : HierarchyValue → Leg → Type 0
HasWay h leg = list_from h leg.from leg.to ≢ []

-- the legs that wait, the next first: each an edge upwards, whose lower end leaves room for what waits above it
abbrev pub AreWaiting : HierarchyValue → List ℕ → ℕ → List Leg → Type 0
AreWaiting h pending count [] = count ≡ 0
AreWaiting h pending count (leg ∷ legs) =
    (below edge : ℕ) × (count ≡ below + 1) × (slice_get pending below ≡ Some edge) × IsLegOf h edge Up leg
    × (leg.from + below + 2 ≤ h.network.nodes) × HasWay h leg × AreWaiting h pending below legs

-- the leg that is next, and those that wait behind it
pub record IsAt (h : HierarchyValue) (pending : List ℕ) (spot : Spot) (leg : Leg) (legs : List Leg) : Type 0 where
  pub here : IsLegOf h spot.edge spot.dir leg
  pub room : min leg.from leg.to + spot.waiting + 2 ≤ h.network.nodes
  pub waiting : AreWaiting h pending spot.waiting legs

-- some legs are next and wait
abbrev pub IsSomewhere : HierarchyValue → List ℕ → Spot → Type 0
IsSomewhere h pending spot = (leg : Leg) × (legs : List Leg) × IsAt h pending spot leg legs

-- the walk over these legs, each from where and when the one before arrives
abbrev pub walk_on : HierarchyValue → List Leg → ℕ → List ℕ
walk_on h [] t = []
walk_on h (leg ∷ legs) t = followed (unpacked_walk h leg.from leg.to t) (λ first. walk_on h legs (drive h.network first t))

-- the lower end of an edge
abbrev pub low_of : Option Ends → ℕ
low_of None = 0
low_of (Some ends) = ends.low

-- the first half is next, downwards to the middle, and the second waits
pub record Parts (h : HierarchyValue) (spot : Spot) (middle : ℕ) (before now : List ℕ) (next : Spot) : Type 0 where
  pub ends : Ends
  pub at : slice_get h.edges spot.edge ≡ Some ends
  pub first : slice_get h.edges next.edge ≡ Some (record { low = middle; high = start_of ends spot.dir })
  pub down : next.dir ≡ Down
  pub second : next.second ≡ spot.second
  pub waiting : next.waiting ≡ spot.waiting + 1
  pub half : ℕ
  pub last : slice_get h.edges half ≡ Some (record { low = middle; high = end_of ends spot.dir })
  pub pending : now ≡ slice_set before spot.waiting half

-- the last that waits is next, or none waits
abbrev pub Resumes : List ℕ → ℕ → ℕ → Option Spot → Type 0
Resumes pending waiting second None = waiting ≡ 0
Resumes pending waiting second (Some spot) =
    (waiting ≡ spot.waiting + 1) × (slice_get pending spot.waiting ≡ Some spot.edge) × (spot.dir ≡ Up) × (spot.second ≡ second)

-- the legs went down to one whose way is a road, or there was no way
abbrev pub FindsRoad : HierarchyValue → Leg → List Leg → ℕ → List ℕ → ℕ → ℕ → Option (Spot × ℕ) → Type 0
FindsRoad h leg legs t pending before now None = (list_from h leg.from leg.to ≡ []) × (now ≡ before + 1)
FindsRoad h leg legs t pending before now (Some found) =
    (next : Leg) × (rest : List Leg) × IsAt h pending found.0 next rest × HasWay h leg
    × (way_from h next.from next.to t ≡ Some (Road found.1))
    × (walk_on h (next ∷ rest) t ≡ walk_on h (leg ∷ legs) t)
    × (now + length legs ≡ before + length rest + 1) × (found.0.second ≡ t)

-- what is left after a road
abbrev pub IsLeft : HierarchyValue → List Leg → List ℕ → ℕ → List ℕ → ℕ → ℕ → Option Spot → Type 0
IsLeft h legs pending arrival left before now None = (left ≡ []) × (now + length legs ≡ before + 1)
IsLeft h legs pending arrival left before now (Some spot) =
    (next : Leg) × (rest : List Leg) × IsAt h pending spot next rest × HasWay h next × (spot.second ≡ arrival)
    × (left ≡ walk_on h (next ∷ rest) arrival) × (now + length legs ≡ before + length rest + 2)

-- one more road of the walk was driven, or there was no way
abbrev pub DrivesOn : HierarchyValue → Leg → List Leg → ℕ → List ℕ → ℕ → ℕ → Option Driven → Type 0
DrivesOn h leg legs t pending before now None = (list_from h leg.from leg.to ≡ []) × (now ≡ before + 1)
DrivesOn h leg legs t pending before now (Some driven) =
    (left : List ℕ) × HasWay h leg × (walk_on h (leg ∷ legs) t ≡ driven.road ∷ left)
    × (driven.arrival ≡ arc_value h.network driven.road t) × (t ≤ driven.arrival) × (driven.arrival ≤ t + MAX_UNTIL)
    × IsLeft h legs pending driven.arrival left before now driven.rest

-- some roads of the walk of a leg from a second on were driven; what is left is that of the leg that is next and those that wait
pub record IsUnderWay (h : HierarchyValue) (start : Leg) (at : ℕ) (leg : Leg) (legs : List Leg) (done : List ℕ) (second : ℕ) : Type 0 where
  pub whole : unpacked_walk h start.from start.to at ≡ done ++ walk_on h (leg ∷ legs) second
  pub arrives : drive h.network done at ≡ second
  pub onward : at ≤ second
  pub near : second ≤ at + MAX_UNTIL * length done
  pub ways : ((leg ≡ start) × (legs ≡ []) × (done ≡ [])) ⊎ (HasWay h leg × HasWay h start)
