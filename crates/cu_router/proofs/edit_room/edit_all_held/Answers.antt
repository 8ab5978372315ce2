use Rattle.std.proofs.Common.{subst}
use Rattle.cu_router.specs.Steps.Rooms.{FitsEdits}
use Rattle.cu_router.proofs.edit_room.edit_all_held.Goals as goal

pub repack_all_held-requires-clause-room : goal.repack_all_held-requires-clause-room
repack_all_held-requires-clause-room g c = subst (FitsEdits c.args.held.now) c.in-Some.is c.fill_edit_room.ensures.fits
