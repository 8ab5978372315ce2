use Rattle.std.proofs.Common.{subst}
use Rattle.cu_router.specs.Steps.Rooms.{FitsEdits}
use Rattle.cu_router.proofs.days.find_day.Goals as goal

pub find_by-requires-clause-room : goal.find_by-requires-clause-room
find_by-requires-clause-room c = subst (FitsEdits c.args.held.now) c.in-Some.is c.fill_edit_room.ensures.fits
