use Rattle.std.proofs.Common.{◌≡◌, rules}
use Rattle.cu_interval.specs.Unpacking.{relaxed}
use Rattle.cu_unpack.proofs.Built.{relaxed_built}
use Rattle.cu_recall.proofs.recall.RecallRelaxer.relax.Goals as goal

pub returns-clause-built : goal.returns-clause-built
returns-clause-built c =
    let is : c.relax_over.result ≡ relaxed c.args.self.now c.args.edge c.args.dir c.args.at = search rules in
    relaxed_built c.args.self.now c.args.edge c.args.dir c.args.at c.relax_over.result is
