-- Settling by packed runs: which functions of lists are known, and what stays true as more are learned and one edge is settled after the other.
use Rattle.std.specs.Prelude.{ℕ, List, Bool, true, Result, IfOk, All, Option, Some, ◌≡◌, ◌≤◌, ◌⊎◌, ◌*◌, length, slice_get}
use Rattle.cu_model.specs.declared.roads.Edit.{Edit}
use Rattle.cu_arrival.specs.declared.runs.Run.{Run}
use Rattle.cu_chordal.specs.declared.graph.Ends.{Ends}
use Rattle.cu_chordal.specs.Graphs.{ChordalValue}
use Rattle.cu_interval.specs.declared.ways.Dir.{Dir}
use Rattle.cu_interval.specs.declared.ways.Entry.{Entry}
use Rattle.cu_interval.specs.declared.ways.Way.{Way}
use Rattle.cu_interval.specs.declared.ways.Way.TheVariants.{Road, Via}
use Rattle.cu_interval.specs.Hierarchies.{HierarchyValue, end_of, list_number, list_of, start_of}
use Rattle.cu_runs.specs.Layers.{layered}
use Rattle.cu_customize.specs.declared.pulling.SettledRuns.{SettledRuns}
use Rattle.cu_customize.specs.Functions.{FunctionsState}
use Rattle.cu_customize.specs.Settling.{IsDayValueOf, IsSettledList}
use Rattle.cu_unpack.specs.RebuiltRuns.{IsKnownList, IsRebuiltRuns, PackedValue}
use Rattle.cu_edits.specs.Learned.{ArePackedOf}
use Rattle.cu_edits.specs.Settling.{IsSettled, SettlingValue, settled_so_far}
use Rattle.cu_edits.specs.Steps.Bounds.{HalvesTakeMore, SomeTakeNoMore, no_limit}
use Rattle.cu_edits.specs.Steps.Frames.{IsFrame}
use Rattle.cu_edits.specs.Steps.Parts.{AreParts}
use Rattle.cu_edits.specs.Steps.Moving.{HalvesAre, IsMovedTo, IsUnmoved, KeepsWays, LeadsUpTo, MovedValue, StandingPair}
use Rattle.cu_edits.specs.Steps.Settled.{AreSettled}

-- it holds where a way doesn't take longer than runs can say
abbrev pub IfNear : {E : Type 0} → Result Bool E → Type 0 → Type 0
IfNear result P = IfOk result (λ is_near. is_near ≡ true → P)

-- more lists were learned; what was known still is, and by the same function
pub record LearnsPacked (h : HierarchyValue) (before now : PackedValue) : Type 0 where
  pub packed : ArePackedOf h now
  pub still : (edge : ℕ) (dir : Dir) → IsKnownList before (list_number edge dir) → IsKnownList now (list_number edge dir)
  pub same : (edge : ℕ) (dir : Dir) (function : List Run) → slice_get before.functions (list_number edge dir) ≡ Some (Some function)
      → slice_get now.functions (list_number edge dir) ≡ Some (Some function)

-- a list is known, unless it was moved
abbrev pub IsAtHand : MovedValue → PackedValue → ℕ → Dir → Type 0
IsAtHand moved packed edge dir = IsUnmoved moved edge dir → IsKnownList packed (list_number edge dir)

-- both halves of the way by a middle are at hand, if one of them was moved
abbrev pub AreAtHandIfMoved : MovedValue → PackedValue → List Ends → Ends → Dir → ℕ → Type 0
AreAtHandIfMoved moved packed edges ends dir middle =
    HalvesAre (IsUnmoved moved) edges ends dir middle ⊎ HalvesAre (IsAtHand moved packed) edges ends dir middle

-- so are those of a way, if it is one by a middle
abbrev pub IsWayAtHand : MovedValue → PackedValue → List Ends → Ends → Dir → Way → Type 0
IsWayAtHand moved packed edges ends dir (Road a) = Unit {0}
IsWayAtHand moved packed edges ends dir (Via m) = HalvesAre (IsAtHand moved packed) edges ends dir m

-- functions by list number: of moved lists those after the edit
abbrev pub functions_at_hand : MovedValue → PackedValue → List (Option (List Run))
functions_at_hand moved packed = layered packed.functions moved.places moved.functions

-- both halves of the way by a middle are at hand, or none was moved and they take longer than this
abbrev pub AreAtHandOrLate : HierarchyValue → MovedValue → PackedValue → ℕ → Ends → Dir → ℕ → Type 0
AreAtHandOrLate h moved packed limit ends dir middle =
    (HalvesAre (IsUnmoved moved) h.edges ends dir middle × HalvesTakeMore h limit h.edges ends dir middle) ⊎ HalvesAre (IsAtHand moved packed) h.edges ends dir middle

-- so it is of all middles of the list of an edge in a direction, where some way is known to take no longer
pub record AreRivalsAtHand (h : HierarchyValue) (moved : MovedValue) (packed : PackedValue) (edge : ℕ) (dir : Dir) : Type 0 where
  pub limit : ℕ
  pub in_time : (ends : Ends) → slice_get h.edges edge ≡ Some ends → (limit ≡ no_limit) ⊎ SomeTakeNoMore (functions_at_hand moved packed) limit h.edges ends dir
  pub each : (ends : Ends) → slice_get h.edges edge ≡ Some ends → (middle : ℕ) → AreAtHandOrLate h moved packed limit ends dir middle

-- the halves of candidates of the list of an edge in a direction are at hand: of all that may be in time; or, where the list was the best that could
-- be made and its ways are as they were, of these ways and of those by a middle of which a half was moved
abbrev pub AreCandidatesAtHand : HierarchyValue → List Edit → List Bool → MovedValue → PackedValue → ℕ → Dir → Type 0
AreCandidatesAtHand h edit marks moved packed edge dir =
    AreRivalsAtHand h moved packed edge dir
    ⊎ (KeepsWays h edit marks moved edge dir
    × ((ends : Ends) → slice_get h.edges edge ≡ Some ends → All (λ (entry : Entry). IsWayAtHand moved packed h.edges ends dir entry.way) (list_of h edge dir))
    × ((ends : Ends) → slice_get h.edges edge ≡ Some ends → (middle : ℕ) → AreAtHandIfMoved moved packed h.edges ends dir middle))

-- what a settler by packed runs holds: functions of the hierarchy before, which are those of lists that stand, too; and the functions of all
-- other lists settled, but of those that were let go of
pub record IsSettlingPacked (s : SettlingValue) (graph : ChordalValue) (arcs : List (List ℕ)) (packed : PackedValue) (moved : MovedValue) : Type 0 where
  pub are : AreSettled s
  pub parts : AreParts s.before s.edit graph arcs
  pub known : ArePackedOf s.before packed
  pub places : length moved.places ≡ 2 * length s.before.edges
  pub inside : All (λ place. place ≤ length moved.functions) moved.places
  pub stands : IsFrame s.before (settled_so_far s) (StandingPair s moved)
  pub moves : (edge : ℕ) (dir : Dir) (function : Option (List Run)) → IsMovedTo moved edge dir function
      → IsSettled s edge × (LeadsUpTo s.before.edges moved.low edge → IsRebuiltRuns (settled_so_far s) edge dir function)

-- a list settled by these functions, and the packed runs of its function
pub record IsPackedList (edges : List Ends) (arcs : List (List ℕ)) (f : FunctionsState) (edge : ℕ) (dir : Dir) (settled : SettledRuns) : Type 0 where
  pub ways : (ends : Ends) (roads : List ℕ) → slice_get edges edge ≡ Some ends → slice_get arcs (list_number edge dir) ≡ Some roads
      → IsSettledList edges roads f (start_of ends dir) (end_of ends dir) settled.ways
  pub value : (ends : Ends) → slice_get edges edge ≡ Some ends → IsDayValueOf edges f (start_of ends dir) (end_of ends dir) settled.ways settled.function
