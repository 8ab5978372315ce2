-- The halves of the ways by the middles of an edge's lower triangles.
use Rattle.std.specs.Prelude.{ℕ, List, Option, ◌≡◌, ◌⊎◌}
use Rattle.std.specs.List.{Contains}
use Rattle.cu_arrival.specs.declared.runs.Run.{Run}
use Rattle.cu_interval.specs.declared.ways.Dir.{Dir}
use Rattle.cu_interval.specs.declared.ways.Dir.TheVariants.{Down, Up}
use Rattle.cu_interval.specs.Hierarchies.{HierarchyValue}
use Rattle.cu_customize.specs.declared.triangles.Triangle.{Triangle}
use Rattle.cu_unpack.specs.RebuiltRuns.{PackedValue}
use Rattle.cu_edits.specs.declared.learning_packed.Middles.{Middles}
use Rattle.cu_edits.specs.declared.learning_packed.Middles.TheVariants.{Within, Moved}
use Rattle.cu_edits.specs.Steps.Bounds.{ArePlaced, TakeMoreThan, TakeNoMoreThan, no_limit}
use Rattle.cu_edits.specs.Steps.Moving.{BothAre, IsUnmoved, MovedValue, TellsBoth}
use Rattle.cu_edits.specs.Steps.Packed.{IsAtHand}

-- the edges of both halves of the way by a triangle's middle: the one's list downwards leads to it, the other's upwards from it
abbrev pub halves_by : Dir → Triangle → ℕ × ℕ
halves_by Up triangle = (triangle.to_low, triangle.to_high)
halves_by Down triangle = (triangle.to_high, triangle.to_low)

-- both halves are like this
abbrev pub HalvesByAre : (ℕ → Dir → Type 0) → Dir → Triangle → Type 0
HalvesByAre Good dir triangle = BothAre Good (halves_by dir triangle)

-- it is told of the lists of both edges of a triangle whether they were moved
abbrev pub TellsSides : MovedValue → Triangle → Type 0
TellsSides moved triangle = TellsBoth moved (triangle.to_low, triangle.to_high)

-- the halves that a pair of edges has need not be learned: none of them was moved; and, where that isn't enough, they take too long
abbrev pub AreLeftOut : HierarchyValue → Middles → MovedValue → ℕ × ℕ → Type 0
AreLeftOut h (Within limit) moved edges = BothAre (IsUnmoved moved) edges × TakeMoreThan h limit edges
AreLeftOut h Moved moved edges = BothAre (IsUnmoved moved) edges

-- both halves of the way by a triangle's middle are at hand, or left out
abbrev pub AreLearned : HierarchyValue → Middles → MovedValue → PackedValue → Dir → Triangle → Type 0
AreLearned h which moved packed dir triangle = AreLeftOut h which moved (halves_by dir triangle) ⊎ HalvesByAre (IsAtHand moved packed) dir triangle

-- there is a place for the functions of both halves of the way by a triangle's middle
abbrev pub HasPlaces : List (Option (List Run)) → Dir → Triangle → Type 0
HasPlaces functions dir triangle = ArePlaced functions (halves_by dir triangle)

-- the way by the middle of some of these triangles takes no longer than this
pub record SomeTakesNoMore (functions : List (Option (List Run))) (dir : Dir) (triangles : List Triangle) (limit : ℕ) : Type 0 where
  pub triangle : Triangle
  pub among : Contains triangles triangle
  pub take : TakeNoMoreThan functions limit (halves_by dir triangle)

-- so it is, or no such way is known
abbrev pub IsLimit : List (Option (List Run)) → Dir → List Triangle → ℕ → Type 0
IsLimit functions dir triangles limit = (limit ≡ no_limit) ⊎ SomeTakesNoMore functions dir triangles limit
