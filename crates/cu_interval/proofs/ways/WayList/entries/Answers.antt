use Rattle.std.proofs.Common.{rules}
use Rattle.cu_interval.specs.WayLists.{IsWayList}
use Rattle.cu_interval.proofs.Spelled.{few_entries}
use Rattle.cu_interval.proofs.ways.WayList.entries.Goals as goal

pub returns-in-Many-clause-few : goal.returns-in-Many-clause-few
returns-in-Many-clause-few c =
    let valid : IsWayList c.args.self.now = search rules in
    let few = few_entries c.args.self.now valid in
    search rules
