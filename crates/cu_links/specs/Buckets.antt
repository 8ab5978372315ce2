-- Edges in buckets by rank.
use Rattle.std.specs.Prelude.{ℕ, List, Option, Some, None, ◌≡◌, ◌≤◌, replicate, slice_get, slice_set}
use Rattle.cu_links.specs.declared.buckets.EdgeState.{EdgeState}
use Rattle.cu_links.specs.declared.buckets.EdgeState.TheVariants.{Free, Held, Done}

-- ranks 0 to ranks - 1, the state of each edge by number, and the last rank popped since the last clear, 0 where none was
pub record BucketsValue : Type 0 where
  pub ranks : ℕ
  pub states : List EdgeState
  pub last : ℕ

-- buckets that nothing was added to
abbrev pub cleared : ℕ → ℕ → BucketsValue
cleared ranks edges = record { ranks = ranks; states = replicate edges Free; last = 0 }

-- the edge wasn't added since the last clear, or it is held at the rank, or it was popped
abbrev pub IsFree : BucketsValue → ℕ → Type 0
IsFree buckets edge = slice_get buckets.states edge ≡ Some Free

abbrev pub IsHeld : BucketsValue → ℕ → ℕ → Type 0
IsHeld buckets edge rank = slice_get buckets.states edge ≡ Some (Held rank)

abbrev pub IsDone : BucketsValue → ℕ → Type 0
IsDone buckets edge = slice_get buckets.states edge ≡ Some Done

-- the edge is held at the rank, and none at a lower one
pub record IsLowestHeld (buckets : BucketsValue) (edge rank : ℕ) : Type 0 where
  pub held : IsHeld buckets edge rank
  pub lowest : (other higher : ℕ) → IsHeld buckets other higher → rank ≤ higher

-- the buckets without an edge that they held at the rank
abbrev pub popped : BucketsValue → ℕ → ℕ → BucketsValue
popped buckets edge rank = record buckets { states = slice_set buckets.states edge Done; last = rank }

-- what is taken out, and what that leaves
abbrev pub Pops : BucketsValue → BucketsValue → Option (ℕ × ℕ) → Type 0
Pops old new None = (new ≡ old) × ((edge rank : ℕ) → IsHeld old edge rank → ⊥)
Pops old new (Some (edge, rank)) = IsLowestHeld old edge rank × (new ≡ popped old edge rank)
