use Rattle.std.proofs.Common.{subst, sym}
use Rattle.cu_edits.specs.Customized.{AreCustomized}
use Rattle.cu_router.proofs.edit_room.ground_of.Goals as goal

pub returns-clause-customized : goal.returns-clause-customized
returns-clause-customized c = subst (AreCustomized c.args.held.now) (sym c.marks.ensures) c.customized.ensures.customized
