-- Ways by a middle that are left out, since they take too long, whatever their halves' functions are.
use Rattle.std.specs.Prelude.{ℕ, List, Option, Some, ◌≡◌, ◌≤◌, ◌<◌, ◌+◌, ◌-◌, ◌^◌, length, slice_get}
use Rattle.cu_model.specs.Days.{day}
use Rattle.cu_arrival.specs.declared.runs.Run.{Run}
use Rattle.cu_arrival.specs.Runs.{arrival_value}
use Rattle.cu_chordal.specs.declared.graph.Ends.{Ends}
use Rattle.cu_interval.specs.declared.ways.Dir.{Dir}
use Rattle.cu_interval.specs.declared.ways.Dir.TheVariants.{Up, Down}
use Rattle.cu_interval.specs.Hierarchies.{HierarchyValue, list_number}
use Rattle.cu_interval.specs.LeastBounds.{far, least_bound}
use Rattle.cu_interval.specs.Shortcuts.{AreHalfEdges}

-- the halves that a pair of edges has take longer than this together
pub record TakeMoreThan (h : HierarchyValue) (limit : ℕ) (edges : ℕ × ℕ) : Type 0 where
  pub few : limit < far
  pub late : limit < least_bound h edges.0 Down + least_bound h edges.1 Up

-- so do both halves of a way by this middle, if there are such
abbrev pub HalvesTakeMore : HierarchyValue → ℕ → List Ends → Ends → Dir → ℕ → Type 0
HalvesTakeMore h limit edges ends dir middle = (first second : ℕ) → AreHalfEdges edges ends dir middle first second → TakeMoreThan h limit (first, second)

-- there is a place for the functions of the halves that a pair of edges has
abbrev pub ArePlaced : List (Option (List Run)) → ℕ × ℕ → Type 0
ArePlaced functions edges = (list_number edges.0 Down < length functions) × (list_number edges.1 Up < length functions)

-- both halves that a pair of edges has have a function, and by these they take no longer than this together
pub record TakeNoMoreThan (functions : List (Option (List Run))) (limit : ℕ) (edges : ℕ × ℕ) : Type 0 where
  pub one : List Run
  pub first : slice_get functions (list_number edges.0 Down) ≡ Some (Some one)
  pub two : List Run
  pub second : slice_get functions (list_number edges.1 Up) ≡ Some (Some two)
  pub each : (t : ℕ) → t < day → arrival_value two (arrival_value one t) ≤ t + limit

-- so do the halves of some way by a middle
pub record SomeTakeNoMore (functions : List (Option (List Run))) (limit : ℕ) (edges : List Ends) (ends : Ends) (dir : Dir) : Type 0 where
  pub middle : ℕ
  pub first : ℕ
  pub second : ℕ
  pub are : AreHalfEdges edges ends dir middle first second
  pub take : TakeNoMoreThan functions limit (first, second)

-- no way is known to take no longer than this
abbrev pub no_limit : ℕ
no_limit = 2 ^ 64 - 1
