-- How buckets are kept: the edges of each rank are linked from the first to the last.
use Rattle.std.specs.Prelude.{ℕ, List, [], ◌∷◌, Option, Some, None, ◌≡◌, ◌≤◌, ◌<◌, ◌^◌, ◌↔◌, length, slice_get}
use Rattle.std.specs.List.{Contains}
use Rattle.cu_links.specs.declared.buckets.EdgeState.{EdgeState}
use Rattle.cu_links.specs.declared.buckets.EdgeState.TheVariants.{Held}

-- links lead from the first edge over these, each of them once, to the last
abbrev pub AreLinked : List (Option ℕ) → Option ℕ → List ℕ → Type 0
AreLinked nexts first [] = first ≡ None
AreLinked nexts first (edge ∷ edges) = (next : Option ℕ) × (first ≡ Some edge) × (Contains edges edge → ⊥) × (slice_get nexts edge ≡ Some next) × AreLinked nexts next edges

-- the edges held at a rank are linked from the first on
pub record IsBucket (nexts : List (Option ℕ)) (states : List EdgeState) (rank : ℕ) (first : Option ℕ) : Type 0 where
  pub edges : List ℕ
  pub linked : AreLinked nexts first edges
  pub exact : (edge : ℕ) → Contains edges edge ↔ (slice_get states edge ≡ Some (Held rank))

pub record AreBuckets (firsts nexts : List (Option ℕ)) (states : List EdgeState) (last : ℕ) : Type 0 where
  pub long : length nexts ≡ length states
  pub few : length firsts < 2 ^ 32
  pub within : (edge rank : ℕ) → slice_get states edge ≡ Some (Held rank) → (last ≤ rank) × (rank < length firsts)
  pub buckets : (rank : ℕ) (first : Option ℕ) → slice_get firsts rank ≡ Some first → IsBucket nexts states rank first

-- an edge is the first of its rank, and no lower rank from this one on has a first edge
pub record IsFirst (firsts : List (Option ℕ)) (from edge rank : ℕ) : Type 0 where
  pub there : slice_get firsts rank ≡ Some (Some edge)
  pub lowest : (other higher : ℕ) → from ≤ higher → slice_get firsts higher ≡ Some (Some other) → rank ≤ higher

abbrev pub FindsFirst : List (Option ℕ) → ℕ → Option (ℕ × ℕ) → Type 0
FindsFirst firsts from None = (edge rank : ℕ) → from ≤ rank → slice_get firsts rank ≡ Some (Some edge) → ⊥
FindsFirst firsts from (Some (edge, rank)) = IsFirst firsts from edge rank
