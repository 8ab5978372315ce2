-- Parting the list that is next.
use Rattle.std.proofs.Common.{◌≡◌, ◌≤◌, ◌<◌, ◌+◌, ◌*◌, ℕ, suc, List, refl, ap, arith, length}
use Rattle.std.specs.Prelude.{slice_set}
use Rattle.cu_interval.specs.Hierarchies.{HierarchyValue, IsHierarchy}
use Rattle.cu_recall.specs.declared.pending.Asked.{Asked}
use Rattle.cu_recall.specs.declared.pending.Half.TheVariants as half
use Rattle.cu_recall.specs.declared.pending.Parted.{Parted}
use Rattle.cu_recall.specs.declared.pending.Pending.{Pending}
use Rattle.cu_recall.specs.declared.pending.Seen.{Seen}
use Rattle.cu_recall.specs.declared.pending.Spot.{Spot}
use Rattle.cu_recall.specs.Spans.{low_of_list}
use Rattle.cu_recall.specs.Steps.Looks.{HoldsParted, HoldsSeen, IsAsked}
use Rattle.cu_recall.specs.Steps.InWork.{IsSomewhere}
use Rattle.cu_recall.proofs.ListEnds.{list_inside, list_low, list_room}
use Rattle.cu_recall.proofs.Working.{parts, work_room}

-- there is room for one more in work
pub part_room : (h : HierarchyValue) → IsHierarchy h → (pending : List Pending) (spot : Spot) → IsSomewhere h pending spot → (spot.depth + 2 ≤ h.network.nodes) × (h.network.nodes ≤ 262144)
part_room h f pending spot (x, y, is) =
    let room = work_room h f spot.whole pending spot.depth x y spot.next.second spot.roads is.below in
    let few = f.graph.few_ranks in
    (omega (arith, room), omega (arith, few))

-- a list that is asked is next where none is in work
pub begun : (h : HierarchyValue) → IsHierarchy h → (pending : List Pending) (whole : Asked) (seen : Seen) → IsAsked h whole → HoldsSeen h whole.list seen
    → IsSomewhere h pending (record { whole = whole; next = whole; seen = seen; depth = 0; roads = 0 }) × (0 < h.network.nodes)
begun h f pending whole seen (u, v, is, some, lt) sees =
    let room = list_room h f whole.list u v is in
    ((u, v, record { list = is; some = some; early = lt; seen = sees; below = (is, refl, refl) }), omega (arith, room))

-- both halves are there
pub parted_there : (h : HierarchyValue) (pending : List Pending) (spot : Spot) (parted : Parted) → IsSomewhere h pending spot → HoldsParted h spot.next parted
    → (parted.first < 2 * length h.edges) × (parted.rest < 2 * length h.edges)
parted_there h pending spot parted (x, y, is) (window, halves) =
    let (m, both, way) = halves x y is.list in
    (list_inside h parted.first x m both.0, list_inside h parted.rest m y both.1)

-- the first half is next, and leads over a lower edge
pub parted_on : (h : HierarchyValue) → IsHierarchy h → (pending : List Pending) (spot : Spot) (parted : Parted) (first rest : Seen) → length pending ≡ h.network.nodes
    → IsSomewhere h pending spot → HoldsParted h spot.next parted → HoldsSeen h parted.first first → HoldsSeen h parted.rest rest
    → IsSomewhere h (slice_set pending spot.depth (record { asked = spot.next; back = parted.back; ahead = parted.ahead; half = half.First parted.rest rest }))
    (record { whole = spot.whole; next = record { list = parted.first; second = spot.next.second }; seen = first; depth = spot.depth + 1; roads = spot.roads })
    × (low_of_list h parted.first < low_of_list h spot.next.list)
parted_on h f pending spot parted first rest long (x, y, is) holds sees waits =
    let made : Pending = record { asked = spot.next; back = parted.back; ahead = parted.ahead; half = half.First parted.rest rest } in
    let one : spot.depth + 1 ≡ suc spot.depth = omega arith in
    let next : Spot = record { whole = spot.whole; next = record { list = parted.first; second = spot.next.second }; seen = first; depth = spot.depth + 1; roads = spot.roads } in
    let (m, at, mx, my) = parts h f pending (slice_set pending spot.depth made) spot next parted first rest made x y long is holds sees waits refl refl
    (ap (λ (n : ℕ). record { whole = spot.whole; next = record { list = parted.first; second = spot.next.second }; seen = first; depth = n; roads = spot.roads }) one) in
    let low = list_low h f parted.first x m at.list in
    let high = list_low h f spot.next.list x y is.list in
    ((x, m, at), omega (arith, low, high, mx, my))
