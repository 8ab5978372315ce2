-- Lists that an edit moves, and lists that stand: their ways are those of before, and so is when they arrive.
use Rattle.std.specs.Prelude.{ℕ, suc, List, [], ◌∷◌, ◌++◌, Bool, true, Option, Some, None, ◌≡◌, ◌≢◌, ◌≤◌, ◌<◌, All, IfSome, length, slice_get, slice_set}
use Rattle.cu_model.specs.declared.roads.Edit.{Edit}
use Rattle.cu_model.specs.Days.{day, IsOnward}
use Rattle.cu_model.specs.Networks.{NetworkValue}
use Rattle.cu_arrival.specs.declared.runs.Run.{Run}
use Rattle.cu_arrival.specs.Runs.{arrival_value}
use Rattle.cu_chordal.specs.declared.graph.Ends.{Ends}
use Rattle.cu_interval.specs.declared.ways.Dir.{Dir}
use Rattle.cu_interval.specs.declared.ways.Dir.TheVariants.{Up, Down}
use Rattle.cu_interval.specs.declared.ways.Entry.{Entry}
use Rattle.cu_interval.specs.declared.ways.Way.{Way}
use Rattle.cu_interval.specs.declared.ways.Way.TheVariants.{Road, Via}
use Rattle.cu_interval.specs.Hierarchies.{HierarchyValue, end_of, list_number, list_of, start_of}
use Rattle.cu_interval.specs.Resettling.{IsResettledList, least_in, rebuilt, value_by}
use Rattle.cu_interval.specs.Shortcuts.{AreHalfEdges}
use Rattle.cu_runs.specs.PackedRuns.{IsPackedFunction}
use Rattle.cu_customize.specs.declared.pulling.SettledRuns.{SettledRuns}
use Rattle.cu_edits.specs.declared.new_list.Outcome.{Outcome}
use Rattle.cu_edits.specs.declared.new_list.Outcome.TheVariants.{Stands, Moves}
use Rattle.cu_edits.specs.declared.new_list.NewList.{NewList}
use Rattle.cu_edits.specs.Settling.{IsFinal, SettlingValue, settled_so_far}
use Rattle.cu_edits.specs.Steps.Frames.{IsFramed, LeadsOver}
use Rattle.cu_resettled.specs.ResettlingAll.{IsChangedBySome}

-- for each list 0, or one more than where its function after the edit stands; these functions; and the rank below which those of edges that lead
-- up to it were let go of
pub record MovedValue : Type 0 where
  pub places : List ℕ
  pub functions : List (Option (List Run))
  pub low : ℕ

-- no two lists have their functions at one place
abbrev pub AreApart : List ℕ → Type 0
AreApart places = (one two place : ℕ) → slice_get places one ≡ Some (suc place) → slice_get places two ≡ Some (suc place) → one ≡ two

-- an edge leads up to this rank or to a higher one
abbrev pub LeadsUpTo : List Ends → ℕ → ℕ → Type 0
LeadsUpTo edges rank edge = (ends : Ends) × (slice_get edges edge ≡ Some ends) × (rank ≤ ends.high)

-- no function was let go of that the lists of an edge may be made of
abbrev pub KeepsHalves : List Ends → MovedValue → ℕ → Type 0
KeepsHalves edges moved edge = (ends : Ends) → slice_get edges edge ≡ Some ends → moved.low ≤ ends.low

-- the list of an edge in a direction wasn't moved
abbrev pub IsUnmoved : MovedValue → ℕ → Dir → Type 0
IsUnmoved moved edge dir = slice_get moved.places (list_number edge dir) ≡ Some 0

-- it was, and has this function
abbrev pub IsMovedTo : MovedValue → ℕ → Dir → Option (List Run) → Type 0
IsMovedTo moved edge dir function =
    (place : ℕ) × (slice_get moved.places (list_number edge dir) ≡ Some (suc place)) × (slice_get moved.functions place ≡ Some function)

-- both halves of a way by this middle, if there are such, are like this
abbrev pub HalvesAre : (ℕ → Dir → Type 0) → List Ends → Ends → Dir → ℕ → Type 0
HalvesAre Good edges ends dir middle = (first second : ℕ) → AreHalfEdges edges ends dir middle first second → Good first Down × Good second Up

-- both halves that a pair of edges has are like this: the one's list downwards, and the other's upwards
abbrev pub BothAre : (ℕ → Dir → Type 0) → ℕ × ℕ → Type 0
BothAre Good edges = Good edges.0 Down × Good edges.1 Up

-- it is told of the lists of both edges of a pair whether they were moved
abbrev pub TellsBoth : MovedValue → ℕ × ℕ → Type 0
TellsBoth moved edges = (list_number edges.0 Down < length moved.places) × (list_number edges.1 Down < length moved.places)

-- a way is as it was: its road isn't changed, or both its halves aren't moved
abbrev pub IsUnmovedWay : NetworkValue → List Edit → List Ends → MovedValue → Ends → Dir → Way → Type 0
IsUnmovedWay g edit edges moved ends dir (Road a) = IsChangedBySome g edit a → ⊥
IsUnmovedWay g edit edges moved ends dir (Via m) = HalvesAre (IsUnmoved moved) edges ends dir m

-- the lists that stand: of edges that won't change any more, and not moved
abbrev pub StandingPair : SettlingValue → MovedValue → ℕ → ℕ → Type 0
StandingPair s moved u v = (edge : ℕ) × (dir : Dir) × LeadsOver s.before.edges edge dir u v × IsFinal s edge × IsUnmoved moved edge dir

-- packed runs say when the ways of a list from u to v arrive; none where it is empty
abbrev pub SayValue : HierarchyValue → ℕ → ℕ → List Entry → Option (List Run) → Type 0
SayValue h u v entries None = entries ≡ []
SayValue h u v entries (Some packed) = (entries ≢ []) × IsPackedFunction packed × IsOnward (arrival_value packed)
    × ((second : ℕ) → second < day → least_in (value_by h.network (rebuilt h) u v second) entries ≡ Some (arrival_value packed second))

-- what became of a list whose ways are these now
abbrev pub IsOutcome : SettlingValue → MovedValue → ℕ → Dir → Ends → List Entry → Outcome → Type 0
IsOutcome s moved edge dir ends entries Stands = (entries ≡ list_of s.before edge dir)
    × All (λ (entry : Entry). IsFramed s.before (settled_so_far s) (StandingPair s moved) (start_of ends dir) (end_of ends dir) entry.way) entries
IsOutcome s moved edge dir ends entries (Moves function) = SayValue (settled_so_far s) (start_of ends dir) (end_of ends dir) entries function

-- a list with these entries stands and has this function, where one is told
abbrev pub StandsBy : HierarchyValue → ℕ → ℕ → List Entry → Outcome → Option (List Run) → Type 0
StandsBy h u v entries outcome standing = IfSome standing (λ function. (outcome ≡ Stands) × SayValue h u v entries (Some function))

-- the list of an edge that is settled next
pub record IsNewList (s : SettlingValue) (moved : MovedValue) (edge : ℕ) (dir : Dir) (list : NewList) : Type 0 where
  pub resettled : (ends : Ends) → slice_get s.before.edges edge ≡ Some ends
      → IsResettledList (settled_so_far s) (start_of ends dir) (end_of ends dir) list.ways
  pub outcome : (ends : Ends) → slice_get s.before.edges edge ≡ Some ends → IsOutcome s moved edge dir ends list.ways list.outcome
  pub standing : (ends : Ends) → slice_get s.before.edges edge ≡ Some ends
      → StandsBy (settled_so_far s) (start_of ends dir) (end_of ends dir) list.ways list.outcome list.standing

-- the list of an edge in a direction may stand: it is marked, no road of it is changed, and no half of a way by a middle was moved
pub record MayStand (h : HierarchyValue) (edit : List Edit) (arcs : List (List ℕ)) (marks : List Bool) (moved : MovedValue) (edge : ℕ) (dir : Dir) : Type 0 where
  pub marked : slice_get marks edge ≡ Some true
  pub roads : (list : List ℕ) → slice_get arcs (list_number edge dir) ≡ Some list → All (λ a. IsChangedBySome h.network edit a → ⊥) list
  pub halves : (ends : Ends) → slice_get h.edges edge ≡ Some ends → (middle : ℕ) → HalvesAre (IsUnmoved moved) h.edges ends dir middle

-- the ways of the list of an edge in a direction before the edit are as they were
abbrev pub AreWaysUnmoved : HierarchyValue → List Edit → MovedValue → ℕ → Dir → Type 0
AreWaysUnmoved h edit moved edge dir = (ends : Ends) → slice_get h.edges edge ≡ Some ends
    → All (λ (entry : Entry). IsUnmovedWay h.network edit h.edges moved ends dir entry.way) (list_of h edge dir)

-- the list of an edge in a direction is marked, and its ways are as they were
pub record KeepsWays (h : HierarchyValue) (edit : List Edit) (marks : List Bool) (moved : MovedValue) (edge : ℕ) (dir : Dir) : Type 0 where
  pub marked : slice_get marks edge ≡ Some true
  pub ways : AreWaysUnmoved h edit moved edge dir

-- what became of a list that was settled: it stands where its ways are those of before and are as they were, else it has the function that
-- settling gave
abbrev pub IsOutcomeOf : HierarchyValue → List Edit → MovedValue → ℕ → Dir → SettledRuns → Outcome → Type 0
IsOutcomeOf h edit moved edge dir settled Stands = (settled.ways ≡ list_of h edge dir) × AreWaysUnmoved h edit moved edge dir
IsOutcomeOf h edit moved edge dir settled (Moves function) = function ≡ settled.function

-- a outcome is kept at a place: 0 where the list stands, else one more than where its function stands, behind all others
abbrev pub KeepsOutcome : MovedValue → MovedValue → Outcome → ℕ → Type 0
KeepsOutcome old new Stands place = (place ≡ 0) × (new ≡ old)
KeepsOutcome old new (Moves function) place = (place ≡ suc (length old.functions)) × (new ≡ record old { functions = old.functions ++ (function ∷ []) })

-- what became of both lists of an edge is kept at these places, one after the other
pub record KeepsBoth (old new : MovedValue) (up down : Outcome) (upwards downwards : ℕ) : Type 0 where
  pub mid : MovedValue
  pub upper : KeepsOutcome old mid up upwards
  pub lower : KeepsOutcome mid new down downwards

-- and then put in their places
pub record PlacesBoth (old new : MovedValue) (edge : ℕ) (up down : Outcome) : Type 0 where
  pub kept : MovedValue
  pub upwards : ℕ
  pub downwards : ℕ
  pub both : KeepsBoth old kept up down upwards downwards
  pub places : new.places ≡ slice_set (slice_set kept.places (list_number edge Up) upwards) (list_number edge Down) downwards
  pub functions : new.functions ≡ kept.functions
  pub low : new.low ≡ kept.low

-- no place is another, and functions are kept behind those before
pub record KeepsMore (old new : MovedValue) : Type 0 where
  pub places : new.places ≡ old.places
  pub low : new.low ≡ old.low
  pub longer : length old.functions ≤ length new.functions
  pub still : (place : ℕ) → place < length old.functions → slice_get new.functions place ≡ slice_get old.functions place

-- functions were let go of, but of no list that is like this
pub record LetsGo (IsKept : ℕ → Type 0) (old new : MovedValue) : Type 0 where
  pub places : new.places ≡ old.places
  pub long : length new.functions ≡ length old.functions
  pub low : new.low ≡ old.low
  pub still : (list place : ℕ) (function : Option (List Run)) → IsKept list → slice_get new.places list ≡ Some (suc place)
      → slice_get new.functions place ≡ Some function → slice_get old.functions place ≡ Some function

-- a list is one of an edge that leads up to this rank or to a higher one
abbrev pub IsListUpTo : List Ends → ℕ → ℕ → Type 0
IsListUpTo edges rank list = (edge : ℕ) × (dir : Dir) × (list ≡ list_number edge dir) × LeadsUpTo edges rank edge
