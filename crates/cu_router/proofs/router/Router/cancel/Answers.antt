use Rattle.std.proofs.Common.{◌∷◌, [], subst, sym}
use Rattle.cu_edits.specs.Paused.{FitsPaused}
use Rattle.cu_interval.specs.Hierarchies.{HierarchyValue}
use Rattle.cu_router.proofs.router.Router.cancel.Goals as goal

pub invariant_of-self : goal.invariant_of-self
invariant_of-self c =
    let held = c.self.inside.held in
    let busy = c.args.busy in
    let fits = subst (λ (h : HierarchyValue). FitsPaused h (busy.edit ∷ []) busy.settler) (sym c.self.view_is) c.requires.fits.fits in
    (c.self.invariant.0, c.give_back.ensures held (busy.edit ∷ []) fits c.self.invariant.1, c.self.invariant.2, c.self.invariant.3)
