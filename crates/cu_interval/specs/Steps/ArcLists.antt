-- Which list each road stands in, and what is gathered of the roads below a number.
use Rattle.std.specs.Prelude.{ℕ, List, Option, Some, None, ◌≡◌, ◌<◌, ◌≤◌, ◌*◌, ◌^◌, ◌↔◌, length, slice_get, All}
use Rattle.std.specs.List.{Contains}
use Rattle.std.specs.List.Sorted.{IsStrictlyIncreasing}
use Rattle.cu_model.specs.declared.limits.TheConstants.{MAX_ARCS}
use Rattle.cu_model.specs.Networks.{NetworkValue}
use Rattle.cu_model.specs.Orders.{OrderValue}
use Rattle.cu_chordal.specs.declared.graph.Ends.{Ends}
use Rattle.cu_chordal.specs.Edges.{LinksRanks}
use Rattle.cu_chordal.specs.Groups.{group_of}
use Rattle.cu_interval.specs.declared.ways.Dir.{Dir}
use Rattle.cu_interval.specs.Hierarchies.{end_of, list_number, start_of}

-- the number of the list that a road stands in: that of the edge that it leads along; none where it is a loop
abbrev pub IsListOf : NetworkValue → OrderValue → List Ends → ℕ → Option ℕ → Type 0
IsListOf g o edges a None = (x y : ℕ) → LinksRanks g o a x y → x ≡ y
IsListOf g o edges a (Some number) = (edge : ℕ) × (dir : Dir) × (ends : Ends) × (number ≡ list_number edge dir)
    × (slice_get edges edge ≡ Some ends) × LinksRanks g o a (start_of ends dir) (end_of ends dir)

-- the roads below a number from one rank to another, rising
pub record AreArcsUntil (g : NetworkValue) (o : OrderValue) (u v bound : ℕ) (arcs : List ℕ) : Type 0 where
  pub rising : IsStrictlyIncreasing arcs
  pub exact : (a : ℕ) → Contains arcs a ↔ ((a < bound) × LinksRanks g o a u v)

-- the roads below a number that are no loops, and the number of the list of each
pub record AreListed (g : NetworkValue) (o : OrderValue) (edges : List Ends) (bound : ℕ) (numbers arcs : List ℕ) : Type 0 where
  pub pairs : length numbers ≡ length arcs
  pub few : length numbers ≤ bound
  pub range : All (λ number. number < 2 * length edges) numbers
  pub each : (edge : ℕ) (dir : Dir) (ends : Ends) → slice_get edges edge ≡ Some ends
      → AreArcsUntil g o (start_of ends dir) (end_of ends dir) bound (group_of numbers arcs (list_number edge dir))

-- lists of roads, each of them rising and no longer than a network has roads
pub record AreLists (lists : List (List ℕ)) : Type 0 where
  pub few : length lists < 2 ^ 32
  pub rising : All IsStrictlyIncreasing lists
  pub short : All (λ list. length list ≤ MAX_ARCS) lists
