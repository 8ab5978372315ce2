use Rattle.std.proofs.Common.{subst, arith}
use Rattle.cu_chordal.specs.Graphs.{FindsEdge}
use Rattle.cu_interval.specs.Hierarchies.{HierarchyValue}
use Rattle.cu_pack.specs.Steps.Fronts.{SpellsSections}
use Rattle.cu_pack.proofs.Viewed.Views.{graph_known, nodes_known}
use Rattle.cu_pack.proofs.ways_in_file.hierarchy.WaysInFileWays.edge.Goals as goal

pub edge-requires : goal.edge-requires
edge-requires c =
    let bytes = c.self.inside.sections.now in
    let spells = subst (SpellsSections bytes) c.self.view_is c.self.invariant in
    let nodes = nodes_known bytes c.args.self.now spells in
    record { graph = graph_known bytes c.args.self.now spells; rank = omega (arith, nodes, c.requires) }

pub returns-clause-found : goal.returns-clause-found
returns-clause-found c = subst (λ (h : HierarchyValue). FindsEdge h.edges c.args.low c.args.high c.edge.result) c.self.view_is c.edge.ensures.found
