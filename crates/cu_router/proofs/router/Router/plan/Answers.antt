use Rattle.std.proofs.Common.{subst}
use Rattle.cu_router.specs.Steps.Rooms.{FitsEdits}
use Rattle.cu_router.proofs.router.Router.plan.Goals as goal

pub plan_held-requires-clause-room : goal.plan_held-requires-clause-room
plan_held-requires-clause-room c = subst (FitsEdits c.self.inside.held) c.in-Some.is c.fill_edit_room.ensures.fits
