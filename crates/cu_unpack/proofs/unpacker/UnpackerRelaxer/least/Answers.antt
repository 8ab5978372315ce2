use Rattle.std.proofs.Common.{◌≤◌, sym, subst}
use Rattle.cu_interval.specs.LeastBounds.{far}
use Rattle.cu_unpack.proofs.FarBounds.{least_bound-far}
use Rattle.cu_unpack.proofs.unpacker.UnpackerRelaxer.least.Goals as goal

pub returns-clause-most : goal.returns-clause-most
returns-clause-most g c = subst (λ n. n ≤ far) (sym c.least.ensures.bound) (least_bound-far (g.W.Ways.hierarchy c.self.inside.ways.now) c.args.edge c.args.dir)
