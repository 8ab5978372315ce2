use Rattle.std.proofs.Common.{subst}
use Rattle.cu_router.specs.Steps.Rooms.{FitsEdits}
use Rattle.cu_router.proofs.router.Router.begin.Goals as goal

pub begin_held-requires-clause-room : goal.begin_held-requires-clause-room
begin_held-requires-clause-room c = subst (FitsEdits c.self.inside.held) c.in-Some.is c.fill_edit_room.ensures.fits
