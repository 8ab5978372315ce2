use Rattle.std.proofs.Common.{subst, sym}
use Rattle.std.specs.Prelude.{Option}
use Rattle.cu_recall.specs.Rooms.{RoomValue}
use Rattle.cu_recall.specs.Spans.{Knows}
use Rattle.cu_router.specs.Steps.Rooms.{kept_in}
use Rattle.cu_router.proofs.query_room.QueryRoom.rows.Goals as goal

pub returns : goal.returns
returns c = record {
  knows = λ h knows.
      let kept = subst (λ (room : RoomValue). Knows h room.rows) (sym c.self.view_is) knows in
      c.rows.ensures.knows h (subst (λ (room : Option RoomValue). Knows h (kept_in room).rows) c.in-Some.is kept);
}
