-- Which bytes are a packed file, and by which check others are refused: the first of these that fails.
use Rattle.std.specs.Prelude.{ℕ, suc, List, ◌≡◌, ◌≢◌, ◌≤◌, ◌<◌, ◌⊎◌, ◌*◌, ◌-◌, ◌++◌, Option, None, Some, codes, drop, length, slice_get, take}
use Rattle.std.specs.List.{Contains}
use Rattle.sha2.specs.Sha256.{sha256}
use Rattle.cu_model.specs.declared.limits.TheConstants.{DAY, MAX_ARCS, MAX_NODES, MAX_PROFILES}
use Rattle.cu_model.specs.Profiles.{IsProfile}
use Rattle.cu_chordal.specs.declared.graph.TheConstants.{MAX_EDGES}
use Rattle.cu_chordal.specs.declared.graph.Ends.{Ends}
use Rattle.cu_chordal.specs.WrongParts.{IsWrongPart}
use Rattle.cu_interval.specs.declared.ways.Dir.{Dir}
use Rattle.cu_interval.specs.declared.ways.Entry.{Entry}
use Rattle.cu_interval.specs.Hierarchies.{HierarchyValue, IsHierarchy, IsWellFormed, end_of, list_number, start_of}
use Rattle.cu_interval.specs.LeastBounds.{least_bound}
use Rattle.cu_interval.specs.WayLists.{IsWayList}
use Rattle.cu_pack.specs.declared.refusals.Field.{Field}
use Rattle.cu_pack.specs.declared.refusals.Field.TheVariants as field
use Rattle.cu_pack.specs.declared.refusals.PackRefusal.{PackRefusal}
use Rattle.cu_pack.specs.declared.refusals.PackRefusal.TheVariants as refused
use Rattle.cu_pack.specs.Layouts.{AreInLimits, file_length}
use Rattle.cu_pack.specs.Places.{long_at, short_at}
use Rattle.cu_pack.specs.Spelling.{spelling_in}
use Rattle.cu_pack.specs.Reading.{arc_in, bound_in, counts_in, decoded, entry_kind, list_in, network_in, node_at_in, piece_kind, profile_in, profile_start, order_in, rank_of_in, uppers_in}
use Rattle.cu_pack.specs.Reading.{edge_starts_in, way_start}

-- none of the first so many is wrong
abbrev pub NoneWrong : (ℕ → Type 0) → ℕ → Type 0
NoneWrong Wrong count = (number : ℕ) → number < count → Wrong number → ⊥

-- this one is wrong, and none before it
abbrev pub IsFirstWrong : (ℕ → Type 0) → ℕ → ℕ → Type 0
IsFirstWrong Wrong count number = (number < count) × Wrong number × NoneWrong Wrong number

-- the first of so many that is wrong, none where none is
abbrev pub FindsFirst : (ℕ → Type 0) → ℕ → Option ℕ → Type 0
FindsFirst Wrong count None = NoneWrong Wrong count
FindsFirst Wrong count (Some number) = IsFirstWrong Wrong count number

-- one check behind the other, each with those before it
-- a header and a digest find room
abbrev pub IsLong : List ℕ → Type 0
IsLong bytes = 84 ≤ length bytes

pub record IsOurs (bytes : List ℕ) : Type 0 where
  pub long : IsLong bytes
  pub magic : take 8 bytes ≡ codes "CATCHUPH"

-- of one of both versions
pub record IsOfVersion (bytes : List ℕ) : Type 0 where
  pub ours : IsOurs bytes
  pub version : (short_at bytes 8 ≡ 1) ⊎ (short_at bytes 8 ≡ 2)

-- of the version that is wanted
abbrev pub IsIn : ℕ → List ℕ → Type 0
IsIn version bytes = short_at bytes 8 ≡ version

pub record IsWhole (bytes : List ℕ) : Type 0 where
  pub version : IsOfVersion bytes
  pub said : long_at bytes 44 ≡ length bytes

-- the last 32 bytes, and those before them
abbrev pub digest_in : List ℕ → List ℕ
digest_in bytes = drop (length bytes - 32) bytes

abbrev pub body_in : List ℕ → List ℕ
body_in bytes = take (length bytes - 32) bytes

-- bytes with the digest of all but the last 32 in the place of these
abbrev pub sealed : List ℕ → List ℕ
sealed bytes = body_in bytes ++ sha256 (body_in bytes)

pub record IsSealed (bytes : List ℕ) : Type 0 where
  pub whole : IsWhole bytes
  pub digest : digest_in bytes ≡ sha256 (body_in bytes)

pub record IsLimited (bytes : List ℕ) : Type 0 where
  pub sealed : IsSealed bytes
  pub limits : AreInLimits (counts_in bytes)

pub record IsSized (bytes : List ℕ) : Type 0 where
  pub limited : IsLimited bytes
  pub size : file_length (counts_in bytes) ≡ length bytes

-- a rank's node is none, or has another rank
abbrev pub IsWrongRank : List ℕ → ℕ → Type 0
IsWrongRank bytes rank =
    ((counts_in bytes).nodes ≤ node_at_in bytes rank) ⊎ (rank_of_in bytes (node_at_in bytes rank) ≢ rank)

pub record IsOrdered (bytes : List ℕ) : Type 0 where
  pub sized : IsSized bytes
  pub ranks : NoneWrong (IsWrongRank bytes) (counts_in bytes).nodes

-- a road's tail, head or profile isn't there
abbrev pub IsWrongArc : List ℕ → ℕ → Type 0
IsWrongArc bytes arc =
    ((counts_in bytes).nodes ≤ (arc_in bytes arc).tail) ⊎ ((counts_in bytes).nodes ≤ (arc_in bytes arc).head)
    ⊎ ((counts_in bytes).profiles ≤ (arc_in bytes arc).profile)

pub record IsJoined (bytes : List ℕ) : Type 0 where
  pub ordered : IsOrdered bytes
  pub arcs : NoneWrong (IsWrongArc bytes) (counts_in bytes).arcs

-- the pieces of a profile are none, or past the last, or of no kind, or no profile
abbrev pub ArePiecesWrong : List ℕ → ℕ → Type 0
ArePiecesWrong bytes profile =
    (profile_start bytes (suc profile) ≤ profile_start bytes profile) ⊎ ((counts_in bytes).pieces < profile_start bytes (suc profile))
    ⊎ ((piece : ℕ) × (profile_start bytes profile ≤ piece) × (piece < profile_start bytes (suc profile)) × (2 < piece_kind bytes piece))
    ⊎ (IsProfile (profile_in bytes profile) → ⊥)

-- the first start isn't 0, or a profile's pieces are wrong; or, behind the last profile, the last start isn't the number of pieces
abbrev pub IsWrongProfile : List ℕ → ℕ → Type 0
IsWrongProfile bytes profile =
    ((profile ≡ 0) × (profile_start bytes 0 ≢ 0)) ⊎ ((profile < (counts_in bytes).profiles) × ArePiecesWrong bytes profile)
    ⊎ ((profile ≡ (counts_in bytes).profiles) × (profile_start bytes profile ≢ (counts_in bytes).pieces))

pub record HasRoads (bytes : List ℕ) : Type 0 where
  pub joined : IsJoined bytes
  pub profiles : NoneWrong (IsWrongProfile bytes) (suc (counts_in bytes).profiles)

-- a rank's edges are wrong
abbrev pub IsWrongRankUp : List ℕ → ℕ → Type 0
IsWrongRankUp bytes rank = IsWrongPart (network_in bytes) (order_in bytes) (edge_starts_in bytes) (uppers_in bytes) rank

pub record IsGraph (bytes : List ℕ) : Type 0 where
  pub roads : HasRoads bytes
  pub ranks : NoneWrong (IsWrongRankUp bytes) (suc (counts_in bytes).nodes)

-- a way of the list from rank u to rank v isn't well formed
abbrev pub HasWrongWay : List ℕ → ℕ → Ends → Dir → Type 0
HasWrongWay bytes list ends dir =
    (entry : Entry) × Contains (list_in bytes list) entry × (IsWellFormed (decoded bytes) (start_of ends dir) (end_of ends dir) entry.way → ⊥)

-- the entries of a list are past the last, or of no kind, or no way list, or have a way that isn't well formed
abbrev pub AreEntriesWrong : List ℕ → ℕ → ℕ → Dir → Type 0
AreEntriesWrong bytes list edge dir =
    (way_start bytes (suc list) < way_start bytes list) ⊎ ((counts_in bytes).entries < way_start bytes (suc list))
    ⊎ ((entry : ℕ) × (way_start bytes list ≤ entry) × (entry < way_start bytes (suc list)) × (1 < entry_kind bytes entry))
    ⊎ (IsWayList (list_in bytes list) → ⊥)
    ⊎ ((ends : Ends) × (slice_get (decoded bytes).edges edge ≡ Some ends) × HasWrongWay bytes list ends dir)

-- the first start isn't 0, or a list's entries are wrong; or, behind the last list, the last start isn't the number of entries
abbrev pub IsWrongList : List ℕ → ℕ → Type 0
IsWrongList bytes list =
    ((list ≡ 0) × (way_start bytes 0 ≢ 0))
    ⊎ ((edge : ℕ) × (dir : Dir) × (edge < (counts_in bytes).edges) × (list ≡ list_number edge dir) × AreEntriesWrong bytes list edge dir)
    ⊎ ((list ≡ 2 * (counts_in bytes).edges) × (way_start bytes list ≢ (counts_in bytes).entries))

pub record HasWays (bytes : List ℕ) : Type 0 where
  pub graph : IsGraph bytes
  pub lists : NoneWrong (IsWrongList bytes) (suc (2 * (counts_in bytes).edges))

-- the number that is kept of a list isn't its least bound
abbrev pub IsWrongBound : List ℕ → ℕ → Type 0
IsWrongBound bytes list =
    (edge : ℕ) × (dir : Dir) × (edge < (counts_in bytes).edges) × (list ≡ list_number edge dir) × (bound_in bytes list ≢ least_bound (decoded bytes) edge dir)

-- a count past its limit
abbrev pub IsPastLimit : List ℕ → Field → Type 0
IsPastLimit bytes field.Nodes = MAX_NODES < (counts_in bytes).nodes
IsPastLimit bytes field.Arcs = MAX_ARCS < (counts_in bytes).arcs
IsPastLimit bytes field.Profiles = MAX_PROFILES < (counts_in bytes).profiles
IsPastLimit bytes field.Edges = MAX_EDGES < (counts_in bytes).edges
IsPastLimit bytes field.Pieces = MAX_PROFILES * DAY < (counts_in bytes).pieces
IsPastLimit bytes field.Entries = 2 * MAX_EDGES * DAY < (counts_in bytes).entries

-- the counts before one, as the header has them, are within their limits
abbrev pub AreBeforeInLimits : List ℕ → Field → Type 0
AreBeforeInLimits bytes field.Nodes = Unit {0}
AreBeforeInLimits bytes field.Arcs = (counts_in bytes).nodes ≤ MAX_NODES
AreBeforeInLimits bytes field.Profiles = ((counts_in bytes).nodes ≤ MAX_NODES) × ((counts_in bytes).arcs ≤ MAX_ARCS)
AreBeforeInLimits bytes field.Edges =
    ((counts_in bytes).nodes ≤ MAX_NODES) × ((counts_in bytes).arcs ≤ MAX_ARCS) × ((counts_in bytes).profiles ≤ MAX_PROFILES)
AreBeforeInLimits bytes field.Pieces =
    ((counts_in bytes).nodes ≤ MAX_NODES) × ((counts_in bytes).arcs ≤ MAX_ARCS) × ((counts_in bytes).profiles ≤ MAX_PROFILES)
    × ((counts_in bytes).edges ≤ MAX_EDGES)
AreBeforeInLimits bytes field.Entries =
    ((counts_in bytes).nodes ≤ MAX_NODES) × ((counts_in bytes).arcs ≤ MAX_ARCS) × ((counts_in bytes).profiles ≤ MAX_PROFILES)
    × ((counts_in bytes).edges ≤ MAX_EDGES) × ((counts_in bytes).pieces ≤ MAX_PROFILES * DAY)

-- bytes are refused so where one version is wanted: all checks before this one pass, and it fails
abbrev pub IsRefusedIn : ℕ → List ℕ → PackRefusal → Type 0
IsRefusedIn version bytes refused.Short = length bytes < 84
IsRefusedIn version bytes refused.Magic = IsLong bytes × (take 8 bytes ≢ codes "CATCHUPH")
IsRefusedIn version bytes (refused.Version found) = IsOurs bytes × (found ≡ short_at bytes 8) × (found ≢ version)
IsRefusedIn version bytes (refused.Length said found) = IsIn version bytes × IsOfVersion bytes × (said ≡ long_at bytes 44) × (found ≡ length bytes) × (said ≢ found)
IsRefusedIn version bytes refused.Digest = IsIn version bytes × IsWhole bytes × (digest_in bytes ≢ sha256 (body_in bytes))
IsRefusedIn version bytes (refused.Limit field) = IsIn version bytes × IsSealed bytes × AreBeforeInLimits bytes field × IsPastLimit bytes field
IsRefusedIn version bytes (refused.Size counted found) =
    IsIn version bytes × IsLimited bytes × (counted ≡ file_length (counts_in bytes)) × (found ≡ length bytes) × (counted ≢ found)
IsRefusedIn version bytes (refused.Order rank) = IsIn version bytes × IsSized bytes × IsFirstWrong (IsWrongRank bytes) (counts_in bytes).nodes rank
IsRefusedIn version bytes (refused.RoadArc arc) = IsIn version bytes × IsOrdered bytes × IsFirstWrong (IsWrongArc bytes) (counts_in bytes).arcs arc
IsRefusedIn version bytes (refused.Profile number) = IsIn version bytes × IsJoined bytes × IsFirstWrong (IsWrongProfile bytes) (suc (counts_in bytes).profiles) number
IsRefusedIn version bytes (refused.Graph rank) = IsIn version bytes × HasRoads bytes × IsFirstWrong (IsWrongRankUp bytes) (suc (counts_in bytes).nodes) rank
IsRefusedIn version bytes (refused.Ways edge dir) =
    IsIn version bytes × IsGraph bytes × IsFirstWrong (IsWrongList bytes) (suc (2 * (counts_in bytes).edges)) (list_number edge dir)
IsRefusedIn version bytes (refused.Bound edge dir) =
    (version ≡ 2) × IsIn version bytes × HasWays bytes × IsFirstWrong (IsWrongBound bytes) (2 * (counts_in bytes).edges) (list_number edge dir)
IsRefusedIn version bytes refused.NoMemory = Unit {0}

-- bytes are refused so: they are no packed file of version 2
abbrev pub IsRefused : List ℕ → PackRefusal → Type 0
IsRefused bytes refusal = IsRefusedIn 2 bytes refusal

-- these bytes are the packed file of this hierarchy in a version
pub record SpellsIn (version : ℕ) (bytes : List ℕ) (h : HierarchyValue) : Type 0 where
  pub sound : IsHierarchy h
  pub spelled : bytes ≡ spelling_in version h

-- these bytes are the packed file of this hierarchy
abbrev pub Spells : List ℕ → HierarchyValue → Type 0
Spells bytes h = SpellsIn 2 bytes h
