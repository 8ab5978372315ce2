use Rattle.cu_pack.proofs.Numbering.Totals.{in_limits}
use Rattle.cu_pack.proofs.counting.count.Goals as goal

pub returns-clause-limits : goal.returns-clause-limits
returns-clause-limits c = simp (
  c.nodes.ensures.count,
  c.arcs.ensures.count,
  c.profiles.ensures.count,
  c.edges.ensures.count,
  c.count_pieces.ensures,
  c.count_entries.ensures,
  c.network.ensures,
) (in_limits 2 c.args.hierarchy.now c.edges.ensures.sound)
