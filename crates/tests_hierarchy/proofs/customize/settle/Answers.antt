use Rattle.std.proofs.Common.{◌<◌, ℕ, List, length}
use Rattle.std.specs.Prelude.{All}
use Rattle.cu_model.proofs.RoadLaws.{all_at}
use Rattle.cu_model.proofs.ListLaws.{item_there}
use Rattle.cu_interval.specs.Hierarchies.{list_number}
use Rattle.cu_customize.proofs.Keeping.{arcs_in}
use Rattle.tests_hierarchy.proofs.customize.settle.Goals as goal

pub settle-requires-clause-arcs : goal.settle-requires-clause-arcs
settle-requires-clause-arcs c list listed =
    let network = c.args.parts.now.network.now in
    let edges = c.args.parts.now.graph.now.edges in
    let lists = c.args.parts.now.arcs.now in
    let (order, are) = c.requires.arcs in
    let (ends, at) = item_there edges c.args.edge c.requires.edge in (
      (are.each c.args.edge c.args.dir ends list at listed).rising,
      all_at (λ (xs : List ℕ). All (λ (a : ℕ). a < length network.arcs) xs) lists (list_number c.args.edge c.args.dir) list (arcs_in network order edges lists are) listed,
    )
