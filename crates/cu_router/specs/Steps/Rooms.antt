-- The rooms for the queries and the edits of a hierarchy.
use Rattle.std.specs.Prelude.{[], Option, Some, None, ◌≡◌, IfSome, IsSome, length}
use Rattle.cu_edits.specs.Learned.{ArePackedOf}
use Rattle.cu_interval.specs.EdgeArcs.{AreEdgeArcs}
use Rattle.cu_interval.specs.Hierarchies.{HierarchyValue}
use Rattle.cu_recall.specs.Rooms.{RoomValue}
use Rattle.cu_sweep.specs.Desks.{DeskValue}
use Rattle.cu_router.specs.declared.edit_room.EditRoom.{EditRoom}

-- what queries keep, while none is answered
abbrev pub kept_in : Option RoomValue → RoomValue
kept_in None = record { nodes = 0; rows = []; downs = [] }
kept_in (Some room) = room

-- room for queries, all of it for as many nodes
pub record IsWholeRoom (sweeps : DeskValue) (known : Option RoomValue) : Type 0 where
  pub there : IsSome known
  pub nodes : sweeps.nodes ≡ (kept_in known).nodes

-- room for edits fits a hierarchy: the roads of each edge, buckets for its ranks and edges, and functions of its lists, if any are known
pub record HasEditRoom (h : HierarchyValue) (room : EditRoom) : Type 0 where
  pub listed : AreEdgeArcs h.network h.order h.edges room.arcs
  pub ranks : room.buckets.ranks ≡ h.network.nodes
  pub edges : length room.buckets.states ≡ length h.edges
  pub learned : IfSome room.learned (ArePackedOf h)

-- so does that which is kept, if any is
abbrev pub FitsEdits : HierarchyValue → Option EditRoom → Type 0
FitsEdits h None = Unit {0}
FitsEdits h (Some room) = HasEditRoom h room
