use Rattle.std.proofs.Common.{◌≡◌, ℕ, List, Option, Some, refl, subst, length}
use Rattle.std.specs.Prelude.{slice_get}
use Rattle.std.proofs.lemmas.Option.{slice_get_read}
use Rattle.cu_arrival.specs.declared.runs.Run.{Run}
use Rattle.cu_interval.specs.LeastBounds.{least_bound}
use Rattle.cu_day.specs.Steps.InTime.{IsNoEarlier, ahead_in}
use Rattle.cu_day.proofs.Leaving.{leaves_standing}
use Rattle.cu_day.proofs.timing.is_left_out.Goals as goal

pub returns : goal.returns
returns g c = λ is.
    let labels = c.args.reached.now.labels.items in
    let standing = c.index-3.result.now in
    let read = slice_get_read labels (length labels) c.args.leg.from c.index.result.now refl c.requires.start c.index.ensures in
    let from = subst (λ (o : Option (List Run)). slice_get labels c.args.leg.from ≡ Some o) c.in-Some.is read in
    let to = slice_get_read labels (length labels) c.args.leg.to standing refl c.requires.end c.index-3.ensures in
    let stands = subst (λ (n : ℕ). IsNoEarlier c.in-Some.label n standing) c.least-bound.ensures.bound (c.is_no_earlier.ensures is) in
    leaves_standing c.args.limits.now.by.now (ahead_in c.args.limits.now.outlook.now c.args.shortcut.dir)
    (least_bound (g.R.Relaxer.hierarchy c.args.limits.now.relaxer.now) c.args.shortcut.edge c.args.shortcut.dir)
    c.args.leg.from c.args.leg.to c.in-Some.label standing labels from to stands
