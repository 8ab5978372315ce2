use Rattle.std.proofs.Common.{◌≡◌, rules}
use Rattle.cu_runs.specs.Least.{least_way}
use Rattle.cu_runs.proofs.ReadLaws.{first_way}
use Rattle.cu_runs.proofs.merging.PartMerger.is_empty.Goals as goal

pub returns : goal.returns
returns c =
    let first : least_way c.args.self.now 0 ≡ c.index.result.now = first_way c.self.inside.least c.args.self.now c.index.result.now c.self.invariant c.self.view_is c.index.ensures in
    rw first (search rules)
