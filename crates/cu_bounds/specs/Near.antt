-- Least bounds of lists that are kept in memory, in 32 bits each.
use Rattle.std.specs.Prelude.{ℕ, List, ◌≡◌, ◌<◌, length, min, slice_index_or}
use Rattle.cu_interval.specs.declared.ways.Dir.{Dir}
use Rattle.cu_interval.specs.declared.ways.Dir.TheVariants.{Up, Down}
use Rattle.cu_interval.specs.Hierarchies.{HierarchyValue}
use Rattle.cu_interval.specs.LeastBounds.{least_bound}

-- the bounds of the lists over each edge, upwards and downwards
pub record NearValue : Type 0 where
  pub ups : List ℕ
  pub downs : List ℕ

-- the bound that is kept of the list over an edge in a direction
abbrev pub kept_bound : NearValue → ℕ → Dir → ℕ
kept_bound bounds edge Up = slice_index_or bounds.ups edge 0
kept_bound bounds edge Down = slice_index_or bounds.downs edge 0

-- a bound as far as it finds room
abbrev pub near : ℕ → ℕ
near bound = min bound 4294967295

-- these are the least bounds of all lists in a direction
abbrev pub AreNearIn : HierarchyValue → Dir → List ℕ → Type 0
AreNearIn h dir bounds = (length bounds ≡ length h.edges)
    × ((edge : ℕ) → edge < length h.edges → slice_index_or bounds edge 0 ≡ near (least_bound h edge dir))

-- these are the least bounds of all lists
pub record AreNear (h : HierarchyValue) (bounds : NearValue) : Type 0 where
  pub up : AreNearIn h Up bounds.ups
  pub down : AreNearIn h Down bounds.downs
