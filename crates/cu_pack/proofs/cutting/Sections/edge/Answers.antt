use Rattle.cu_pack.proofs.Read.EdgesRead.{edge_read, has_part}
use Rattle.cu_pack.proofs.cutting.Sections.edge.Goals as goal

pub edge_between-requires : goal.edge_between-requires
edge_between-requires c = record { low = has_part c.args.self.now c.requires.graph c.args.low c.requires.rank }

pub returns : goal.returns
returns c = record { found = edge_read c.args.self.now c.requires.graph c.args.low c.requires.rank c.args.high c.edge_between.result c.edge_between.ensures.edge }
