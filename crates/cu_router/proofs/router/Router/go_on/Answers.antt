use Rattle.std.proofs.Common.{subst}
use Rattle.cu_router.specs.Steps.Rooms.{FitsEdits}
use Rattle.cu_router.proofs.router.Router.go_on.Goals as goal

pub settle_next-requires-clause-room : goal.settle_next-requires-clause-room
settle_next-requires-clause-room c = subst (FitsEdits c.self.inside.held) c.in-Some.is c.fill_edit_room.ensures.fits

pub settle_next-requires-clause-knows : goal.settle_next-requires-clause-knows
settle_next-requires-clause-knows c = c.rows.ensures.knows c.self.inside.held c.self.invariant.0.knows
