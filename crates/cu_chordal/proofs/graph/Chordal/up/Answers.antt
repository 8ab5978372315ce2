use Rattle.std.proofs.Common.{◌≡◌, subst, sym}
use Rattle.std.specs.List.Sorted.{IsStrictlyIncreasing}
use Rattle.cu_chordal.specs.Graphs.{up_of}
use Rattle.cu_chordal.proofs.Handing.{child_table}
use Rattle.cu_chordal.proofs.Layouts.{rank_there, sound_read, up_increasing, up_members, up_read}
use Rattle.cu_chordal.proofs.graph.Chordal.up.Goals as goal

pub up-requires-clause-there : goal.up-requires-clause-there
up-requires-clause-there c = (rank_there c.self.inside.ranks c.self.inside.table c.self.inside.lower c.args.self.now c.self.invariant c.self.view_is c.args.rank c.requires).0

pub up-requires-clause-table : goal.up-requires-clause-table
up-requires-clause-table c = child_table c.self.inside.ranks c.self.inside.table c.self.invariant.upper

pub returns-clause-members : goal.returns-clause-members
returns-clause-members c = up_members c.args.self.now.edges c.args.rank c.up.result.now
    (up_read c.self.inside.ranks c.self.inside.table c.self.inside.lower c.args.self.now c.self.invariant c.self.view_is c.args.rank c.up.result.now c.up.ensures)

pub returns-clause-rising : goal.returns-clause-rising
returns-clause-rising c =
    let same : c.up.result.now ≡ up_of c.args.self.now.edges c.args.rank =
    up_read c.self.inside.ranks c.self.inside.table c.self.inside.lower c.args.self.now c.self.invariant c.self.view_is c.args.rank c.up.result.now c.up.ensures in
    subst IsStrictlyIncreasing (sym same) (up_increasing c.args.self.now
    (sound_read c.self.inside.ranks c.self.inside.table c.self.inside.lower c.args.self.now c.self.invariant c.self.view_is) c.args.rank)
