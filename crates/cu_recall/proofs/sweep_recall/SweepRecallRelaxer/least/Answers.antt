use Rattle.std.proofs.Common.{◌≤◌, arith, sym, subst}
use Rattle.cu_interval.specs.LeastBounds.{far}
use Rattle.cu_unpack.proofs.FarBounds.{least_bound-far}
use Rattle.cu_recall.proofs.sweep_recall.SweepRecallRelaxer.least.Goals as goal

pub overflow_add-place : goal.overflow_add-place
overflow_add-place c =
    let few = c.self.invariant.0.1.graph.few_edges in
    omega (arith, c.requires.edge, few, c.self.invariant.2)

pub returns-clause-most : goal.returns-clause-most
returns-clause-most c = subst (λ n. n ≤ far) (sym c.least_in.ensures.bound) (least_bound-far c.self.inside.view.now c.args.edge c.args.dir)
