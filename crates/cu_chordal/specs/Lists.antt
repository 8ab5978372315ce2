-- Graphs in two lists: where the part of each rank starts, and the parts, one behind the other.
use Rattle.std.specs.Prelude.{ℕ, zero, suc, List, [], ◌∷◌, ◌++◌, Some, ◌≡◌, ◌≤◌, ◌<◌, ◌+◌, ◌-◌, length, slice_get, slice_index, slice_range}
use Rattle.std.specs.List.{Contains}
use Rattle.std.specs.List.Sorted.{IsStrictlyIncreasing}
use Rattle.cu_model.specs.declared.limits.TheConstants.{MAX_NODES}
use Rattle.cu_chordal.specs.declared.graph.Ends.{Ends}
use Rattle.cu_chordal.specs.declared.graph.TheConstants.{MAX_EDGES}

-- the members of a key, from its start to the next start
abbrev pub part_at : List ℕ → List ℕ → ℕ → List ℕ
part_at starts members key = slice_range members (slice_index starts key) (slice_index starts (key + 1))

-- an edge from the rank to each of these
abbrev pub edges_to : ℕ → List ℕ → List Ends
edges_to rank [] = []
edges_to rank (y ∷ ys) = record { low = rank; high = y } ∷ edges_to rank ys

-- the edges of the first so many ranks, in order: from each rank to each entry of its part
abbrev pub edges_below : List ℕ → List ℕ → ℕ → List Ends
edges_below starts uppers zero = []
edges_below starts uppers (suc rank) = edges_below starts uppers rank ++ edges_to rank (part_at starts uppers rank)

-- the edges of all ranks; behind the last start comes the end of the parts
abbrev pub edges_of_lists : List ℕ → List ℕ → List Ends
edges_of_lists starts uppers = edges_below starts uppers (length starts - 1)

-- no start is less than the one before it
abbrev pub NeverFall : List ℕ → Type 0
NeverFall starts = (rank : ℕ) → rank + 1 < length starts → slice_index starts rank ≤ slice_index starts (rank + 1)

-- the parts are all of the entries
abbrev pub EndWith : List ℕ → List ℕ → Type 0
EndWith starts uppers = slice_index starts (length starts - 1) ≡ length uppers

-- each part rises strictly
abbrev pub PartsRise : List ℕ → List ℕ → Type 0
PartsRise starts uppers = (rank : ℕ) → rank + 1 < length starts → IsStrictlyIncreasing (part_at starts uppers rank)

-- each entry is above its part's rank and below the number of ranks
abbrev pub EntriesAreHigher : List ℕ → List ℕ → Type 0
EntriesAreHigher starts uppers = (rank y : ℕ) → rank + 1 < length starts → Contains (part_at starts uppers rank) y → (rank < y) × (y + 1 < length starts)

-- of any two entries of one part, the greater is in the part of the lesser
abbrev pub EntriesAreJoined : List ℕ → List ℕ → Type 0
EntriesAreJoined starts uppers = (rank x y : ℕ) → rank + 1 < length starts → Contains (part_at starts uppers rank) x → Contains (part_at starts uppers rank) y
    → x < y → Contains (part_at starts uppers x) y

-- the lists hold a chordal graph
pub record HoldGraph (starts uppers : List ℕ) : Type 0 where
  pub few_ranks : length starts ≤ MAX_NODES + 1
  pub few_edges : length uppers ≤ MAX_EDGES
  pub first : slice_get starts 0 ≡ Some 0
  pub starts_rise : NeverFall starts
  pub whole : EndWith starts uppers
  pub parts_rise : PartsRise starts uppers
  pub higher : EntriesAreHigher starts uppers
  pub joined : EntriesAreJoined starts uppers
