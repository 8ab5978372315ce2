use Rattle.cu_pack.proofs.Read.HalfEdges.{rank_inside}
use Rattle.cu_pack.proofs.halving.edge_to.Goals as goal

pub edge_by-requires-clause-rank : goal.edge_by-requires-clause-rank
edge_by-requires-clause-rank c = rank_inside c.args.sections.now c.requires.graph c.args.low c.args.high c.requires.there
