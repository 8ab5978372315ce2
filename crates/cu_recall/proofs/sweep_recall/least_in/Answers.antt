use Rattle.std.proofs.Common.{subst, sym}
use Rattle.cu_recall.specs.Downs.{KnowsDowns}
use Rattle.cu_recall.specs.Rooms.{Fits}
use Rattle.cu_recall.proofs.sweep_recall.least_in.Goals as goal

pub least_down-requires-clause-knows : goal.least_down-requires-clause-knows
least_down-requires-clause-knows c =
    let fits = subst (Fits c.args.view.now) (sym c.room.view_is) c.requires.fits in
    subst (KnowsDowns c.args.view.now) (sym c.deref.ensures.value) fits.downs
