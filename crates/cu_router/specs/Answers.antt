-- What a query is answered by a hierarchy, built or not.
use Rattle.std.specs.Prelude.{ℕ, List, Option, Some, None, ◌≡◌, ◌⊎◌, codes}
use Rattle.cu_model.specs.declared.queries.Query.{Query}
use Rattle.cu_model.specs.Answers.{arrive_text}
use Rattle.cu_model.specs.Networks.{NetworkValue}
use Rattle.cu_model.specs.Roads.{HasNoWalk, IsLeastArrival, IsWalk, drive}
use Rattle.cu_drive.specs.DriveAnswers.{IsAnswerAs, says_drive}
use Rattle.cu_interval.specs.declared.ways.Dir.{Dir}
use Rattle.cu_interval.specs.Hierarchies.{HierarchyValue, IsBuilt}
use Rattle.cu_wait.specs.declared.points.Point.{Point}
use Rattle.cu_wait.specs.KeptPoints.{says_kept}
use Rattle.cu_router.specs.Swept.{damaged_text, swept_as}

-- The reply tells a walk that is driven from the query's second and arrives when it says; or that the sweeps found no walk; or of a
-- relaxation whose walk is too long.
abbrev pub IsRealAs : (ℕ → List ℕ → List ℕ) → NetworkValue → Query → List ℕ → Type 0
IsRealAs says g query reply =
    ((arrival : ℕ) × (walk : List ℕ) × (reply ≡ says arrival walk) × IsWalk g query.from walk query.to
    × (drive g walk query.second ≡ arrival))
    ⊎ (reply ≡ codes "unreachable")
    ⊎ ((edge : ℕ) × (dir : Dir) × (second : ℕ) × (reply ≡ damaged_text edge dir second))

-- a query is answered by the two sweeps over the hierarchy, an arrival said so; and where that is built, by the least arrival
pub record IsHeldAs (says : ℕ → List ℕ → List ℕ) (h : HierarchyValue) (query : Query) (reply : List ℕ) : Type 0 where
  pub swept : reply ≡ swept_as says h query
  pub real : IsRealAs says h.network query reply
  pub least : IsBuilt h → IsAnswerAs says h.network query reply

-- the answer of a hierarchy to a query
abbrev pub IsHeldAnswer : HierarchyValue → Query → List ℕ → Type 0
IsHeldAnswer h query reply = IsHeldAs arrive_text h query reply

-- the same with the drive of its walk
abbrev pub IsHeldDrive : HierarchyValue → Query → List ℕ → Type 0
IsHeldDrive h query reply = IsHeldAs (says_drive h.network query.second) h query reply

-- the same with the waits of whoever has these points of measured profiles
abbrev pub IsHeldWaits : List (Option (List Point)) → HierarchyValue → Query → List ℕ → Type 0
IsHeldWaits kept h query reply = IsHeldAs (says_kept kept h.network query.second) h query reply

-- the least arrival of a query; none where there is no walk
abbrev pub FindsArrival : NetworkValue → Query → Option ℕ → Type 0
FindsArrival g query None = HasNoWalk g query.from query.to
FindsArrival g query (Some arrival) = IsLeastArrival g query.from query.to query.second arrival
