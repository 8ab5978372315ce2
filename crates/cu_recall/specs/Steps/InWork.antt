-- The lists in work: each is parted at a middle, and one of its halves is in work above it.
use Rattle.std.specs.Prelude.{ℕ, zero, suc, List, [], Option, Some, None, ◌≡◌, ◌≢◌, ◌≤◌, ◌<◌, ◌+◌, ◌%◌, length, slice_get}
use Rattle.cu_model.specs.Days.{day}
use Rattle.cu_interval.specs.declared.ways.Way.TheVariants.{Via}
use Rattle.cu_interval.specs.Hierarchies.{HierarchyValue, list_from, way_from}
use Rattle.cu_recall.specs.declared.spans.Driven.{Driven}
use Rattle.cu_interval.specs.Unpacking.{unpacked_walk}
use Rattle.cu_recall.specs.declared.pending.After.{After}
use Rattle.cu_recall.specs.declared.pending.After.TheVariants as after
use Rattle.cu_recall.specs.declared.pending.Asked.{Asked}
use Rattle.cu_recall.specs.declared.pending.Half.{Half}
use Rattle.cu_recall.specs.declared.pending.Half.TheVariants as half
use Rattle.cu_recall.specs.declared.pending.Pending.{Pending}
use Rattle.cu_recall.specs.declared.pending.Spot.{Spot}
use Rattle.cu_recall.specs.Spans.{IsListFrom, WalkTakes}
use Rattle.cu_recall.specs.Steps.Looks.{HoldsSeen}
use Rattle.cu_recall.specs.Windows.{HoldsDriven, IsDriven, IsNear, IsWindow}

-- a list from u to v, parted at a middle that is in force near the second at which it is asked
pub record IsParted (h : HierarchyValue) (p : Pending) (u v middle : ℕ) : Type 0 where
  pub list : IsListFrom h p.asked.list u v
  pub window : IsWindow p.asked.second p.back p.ahead
  pub way : (t : ℕ) → IsNear p.asked.second p.back p.ahead t → way_from h u v t ≡ Some (Via middle)

-- its half in work leads from x to y and is asked at this second: the first, or, where the first took so much, the second
abbrev pub IsHalf : HierarchyValue → Pending → Half → (u v middle x y second : ℕ) → Type 0
IsHalf h p (half.First rest seen) u v middle x y second =
    (x ≡ u) × (y ≡ middle) × (second ≡ p.asked.second) × IsListFrom h rest middle v × HoldsSeen h rest seen
IsHalf h p (half.Second travel roads) u v middle x y second =
    (x ≡ middle) × (y ≡ v) × (second ≡ (p.asked.second + travel) % day)
    × ((t : ℕ) → IsNear p.asked.second p.back p.ahead t → WalkTakes h u middle t travel roads)

-- how many roads were driven before it
abbrev pub roads_before : Half → ℕ
roads_before (half.First rest seen) = 0
roads_before (half.Second travel roads) = roads

-- of so many lists in work the last one's half in work leads from x to y and is asked at this second, so many roads after the start
abbrev pub AreInWork : HierarchyValue → Asked → List Pending → ℕ → (x y second roads : ℕ) → Type 0
AreInWork h whole pending zero x y second roads = IsListFrom h whole.list x y × (second ≡ whole.second) × (roads ≡ 0)
AreInWork h whole pending (suc below) x y second roads =
    (p : Pending) × (u v middle before : ℕ) × (slice_get pending below ≡ Some p) × IsParted h p u v middle × IsHalf h p p.half u v middle x y second
    × (roads ≡ before + roads_before p.half) × AreInWork h whole pending below u v p.asked.second before

-- where an unpacking stands: the list that is next leads from x to y
pub record IsAt (h : HierarchyValue) (pending : List Pending) (spot : Spot) (x y : ℕ) : Type 0 where
  pub list : IsListFrom h spot.next.list x y
  pub some : list_from h x y ≢ []
  pub early : spot.next.second < day
  pub seen : HoldsSeen h spot.next.list spot.seen
  pub below : AreInWork h spot.whole pending spot.depth x y spot.next.second spot.roads

abbrev pub IsSomewhere : HierarchyValue → List Pending → Spot → Type 0
IsSomewhere h pending spot = (x y : ℕ) × IsAt h pending spot x y

-- of so many lists in work the last one's half in work was driven, and with it so many roads since the start
abbrev pub IsDone : HierarchyValue → Asked → List Pending → ℕ → ℕ → Driven → Type 0
IsDone h whole pending count total driven =
    (x y second roads : ℕ) × AreInWork h whole pending count x y second roads × IsDriven h x y second driven × (total ≡ roads + driven.roads)

-- the whole was driven, or the half that waited is next
abbrev pub Follows : HierarchyValue → Asked → List Pending → ℕ → After → Type 0
Follows h whole pending total (after.Whole driven) = HoldsDriven h whole.list whole.second driven × (driven.roads ≡ total)
Follows h whole pending total (after.Next spot) = IsSomewhere h pending spot × (spot.roads ≡ total) × (spot.whole ≡ whole)

-- what the whole takes; none where its walk has as many roads as there are nodes
abbrev pub Unpacks : HierarchyValue → Asked → Option Driven → Type 0
Unpacks h whole None = (u v : ℕ) → IsListFrom h whole.list u v → h.network.nodes ≤ length (unpacked_walk h u v whole.second)
Unpacks h whole (Some driven) = HoldsDriven h whole.list whole.second driven × (driven.roads < h.network.nodes)
