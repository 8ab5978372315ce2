use Rattle.cu_chordal.proofs.Layouts.{first_count, first_few, numbers_read}
use Rattle.cu_chordal.proofs.graph.Chordal.first_edge.Goals as goal

pub returns-clause-few : goal.returns-clause-few
returns-clause-few c = first_few c.self.inside.ranks c.self.inside.table c.self.inside.lower c.args.self.now c.self.invariant c.self.view_is c.args.rank c.index.result.now c.requires c.index.ensures

pub returns-clause-numbers : goal.returns-clause-numbers
returns-clause-numbers c = numbers_read c.self.inside.ranks c.self.inside.table c.self.inside.lower c.args.self.now c.self.invariant c.self.view_is
    c.args.rank c.index.result.now c.requires (first_count c.self.inside.ranks c.self.inside.table c.self.inside.lower c.args.self.now
    c.self.invariant c.self.view_is c.args.rank c.index.result.now c.requires c.index.ensures)
