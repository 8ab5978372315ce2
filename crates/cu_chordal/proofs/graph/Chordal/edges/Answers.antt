use Rattle.std.proofs.Common.{arith}
use Rattle.cu_chordal.proofs.Layouts.{edges_read}
use Rattle.cu_chordal.proofs.graph.Chordal.edges.Goals as goal

pub overflow_cast-result : goal.overflow_cast-result
overflow_cast-result c = let long = edges_read c.self.inside.ranks c.self.inside.table c.self.inside.lower c.args.self.now c.self.invariant
    c.self.view_is in omega (arith, long.0, long.2, c.self.inside.table.lows.ok.0)

pub returns-clause-count : goal.returns-clause-count
returns-clause-count c = let long = edges_read c.self.inside.ranks c.self.inside.table c.self.inside.lower c.args.self.now c.self.invariant
    c.self.view_is in omega (arith, long.0, c.self.inside.table.lows.ok.0)
