-- Low walks: walks between ranks whose inner nodes rank below both ends.
use Rattle.std.specs.Prelude.{ℕ, List, [], ◌∷◌, Some, ◌≡◌, ◌≢◌, ◌≤◌, ◌<◌, slice_get, min}
use Rattle.cu_model.specs.Networks.{NetworkValue}
use Rattle.cu_model.specs.Orders.{OrderValue}
use Rattle.cu_model.specs.Roads.{Leads, drive}

-- the road with this number may be driven from rank x to rank y
abbrev pub LeadsRanks : NetworkValue → OrderValue → ℕ → ℕ → ℕ → Type 0
LeadsRanks g o a x y = (u v : ℕ) × Leads g a u v × (slice_get o.rank_of u ≡ Some x) × (slice_get o.rank_of v ≡ Some y)

-- a walk of at least one road from rank u to rank v whose inner nodes all rank below m
abbrev pub WalkBelow : NetworkValue → OrderValue → ℕ → ℕ → List ℕ → ℕ → Type 0
WalkBelow g o m u [] v = ⊥
WalkBelow g o m u (a ∷ []) v = LeadsRanks g o a u v
WalkBelow g o m u (a ∷ b ∷ walk) v = (x : ℕ) × LeadsRanks g o a u x × (x < m) × WalkBelow g o m x (b ∷ walk) v

-- a low walk: its ends differ, and its inner nodes all rank below both
abbrev pub IsLowWalk : NetworkValue → OrderValue → ℕ → List ℕ → ℕ → Type 0
IsLowWalk g o u walk v = (u ≢ v) × WalkBelow g o (min u v) u walk v

-- some low walk leads from u to v
abbrev pub HasLowWalk : NetworkValue → OrderValue → ℕ → ℕ → Type 0
HasLowWalk g o u v = (walk : List ℕ) × IsLowWalk g o u walk v

-- the earliest arrival over all low walks from u to v, leaving at t
pub record IsLeastLowDrive (g : NetworkValue) (o : OrderValue) (u v t arrival : ℕ) : Type 0 where
  pub reached : (walk : List ℕ) × IsLowWalk g o u walk v × (drive g walk t ≡ arrival)
  pub least : (walk : List ℕ) → IsLowWalk g o u walk v → arrival ≤ drive g walk t
