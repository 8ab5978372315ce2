use Rattle.cu_pack.proofs.Read.EdgesRead.{edge_read, has_part}
use Rattle.cu_pack.proofs.cutting.Sections.edge_by.Goals as goal

pub edge_behind-requires-clause-low : goal.edge_behind-requires-clause-low
edge_behind-requires-clause-low c = has_part c.args.self.now c.requires.graph c.args.low c.requires.rank

pub returns : goal.returns
returns c = record { found = edge_read c.args.self.now c.requires.graph c.args.low c.requires.rank c.args.high c.edge_behind.result c.edge_behind.ensures.edge }
