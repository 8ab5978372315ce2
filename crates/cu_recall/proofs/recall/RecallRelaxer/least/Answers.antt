use Rattle.std.proofs.Common.{◌≤◌, sym, subst}
use Rattle.cu_interval.specs.LeastBounds.{far}
use Rattle.cu_unpack.proofs.FarBounds.{least_bound-far}
use Rattle.cu_recall.proofs.recall.RecallRelaxer.least.Goals as goal

pub returns-clause-most : goal.returns-clause-most
returns-clause-most c = subst (λ n. n ≤ far) (sym c.least.ensures.bound) (least_bound-far c.self.inside.view.now c.args.edge c.args.dir)
