use Rattle.std.proofs.Common.{arith}
use Rattle.cu_chordal.proofs.Layouts.{edges_read, ends_read}
use Rattle.cu_chordal.proofs.graph.Chordal.ends.Goals as goal

pub index-requires : goal.index-requires
index-requires c = let long = edges_read c.self.inside.ranks c.self.inside.table c.self.inside.lower c.args.self.now c.self.invariant
    c.self.view_is in omega (arith, long.0, c.requires, c.self.inside.table.lows.ok.0)

pub index-requires-2 : goal.index-requires-2
index-requires-2 c = let long = edges_read c.self.inside.ranks c.self.inside.table c.self.inside.lower c.args.self.now c.self.invariant
    c.self.view_is in omega (arith, long.1, c.requires, c.self.inside.table.highs.ok.0)

pub returns-clause-there : goal.returns-clause-there
returns-clause-there c = ends_read c.self.inside.ranks c.self.inside.table c.self.inside.lower c.args.self.now c.self.invariant c.self.view_is
    c.args.edge c.index.result.now c.index-2.result.now c.requires c.index.ensures c.index-2.ensures
