use Rattle.std.proofs.Common.{subst, sym}
use Rattle.cu_recall.specs.Rooms.{RoomValue}
use Rattle.cu_recall.specs.Spans.{Knows}
use Rattle.cu_recall.proofs.Keeping.{known_written}
use Rattle.cu_recall.proofs.room.Room.rows.Goals as goal

pub returns : goal.returns
returns c = record {
  knows = λ h knows.
      let written = subst (λ (room : RoomValue). Knows h room.rows) (sym c.self.view_is) knows in
      subst (Knows h) (sym c.deref.ensures.value) (known_written h c.self.inside.lists c.self.inside.rows.items written);
}
