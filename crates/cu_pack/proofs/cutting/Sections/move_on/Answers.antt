use Rattle.cu_pack.proofs.Read.EdgesRead.{has_part}
use Rattle.cu_pack.proofs.cutting.Sections.move_on.Goals as goal

pub edge_reaching-requires-clause-low : goal.edge_reaching-requires-clause-low
edge_reaching-requires-clause-low c = has_part c.args.self.now c.requires.graph c.args.low c.requires.rank
