use Rattle.std.proofs.Common.{◌≡◌, arith, rules}
use Rattle.cu_interval.specs.Unpacking.{relaxed}
use Rattle.cu_unpack.proofs.Built.{relaxed_built}
use Rattle.cu_recall.proofs.sweep_recall.SweepRecallRelaxer.relax.Goals as goal

pub overflow_add-place : goal.overflow_add-place
overflow_add-place c =
    let few = c.self.invariant.0.1.graph.few_edges in
    omega (arith, c.requires.edge, few, c.self.invariant.2)

pub returns-clause-built : goal.returns-clause-built
returns-clause-built c =
    let is : c.relax_in.result ≡ relaxed c.args.self.now c.args.edge c.args.dir c.args.at = search rules in
    relaxed_built c.args.self.now c.args.edge c.args.dir c.args.at c.relax_in.result is
