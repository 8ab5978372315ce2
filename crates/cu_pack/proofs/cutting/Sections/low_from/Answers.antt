use Rattle.std.proofs.Common.{◌≡◌, ◌≤◌, ◌∙◌, ap, arith}
use Rattle.cu_pack.specs.declared.layout.Counts.{Counts}
use Rattle.cu_pack.specs.Reading.{counts_in, edge_start}
use Rattle.cu_pack.proofs.Read.FirstList.{all_edges}
use Rattle.cu_pack.proofs.cutting.Sections.low_from.Goals as goal

pub unreachable-requires : goal.unreachable-requires
unreachable-requires c =
    let bytes = c.args.self.now in
    let nodes = ap (λ (counts : Counts). counts.nodes) c.counts-low-end.ensures.counts in
    let most = c.loop-low.auto.low-end (omega (arith, c.requires.first, nodes)) in
    let last : c.loop-low.low ≡ (counts_in bytes).nodes = omega (arith, nodes, most, c.loop-low-test.false) in
    let all : edge_start bytes c.loop-low.low ≡ (counts_in bytes).edges = ap (edge_start bytes) last ∙ all_edges bytes c.requires.graph in
    let begun : edge_start bytes c.loop-low.low ≤ c.args.edge = c.loop-low.invariant in
    omega (arith, begun, all, c.requires.edge)
