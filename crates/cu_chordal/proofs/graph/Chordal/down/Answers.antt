use Rattle.std.proofs.Common.{◌≡◌, subst, sym}
use Rattle.std.specs.List.Sorted.{IsStrictlyIncreasing}
use Rattle.cu_chordal.specs.Graphs.{down_of}
use Rattle.cu_chordal.proofs.Layouts.{rank_there, sound_read, down_increasing, down_members, down_read}
use Rattle.cu_chordal.proofs.graph.Chordal.down.Goals as goal

pub group-requires : goal.group-requires
group-requires c = (rank_there c.self.inside.ranks c.self.inside.table c.self.inside.lower c.args.self.now c.self.invariant c.self.view_is c.args.rank c.requires).1

pub returns-clause-exact : goal.returns-clause-exact
returns-clause-exact c = down_read c.self.inside.ranks c.self.inside.table c.self.inside.lower c.args.self.now c.self.invariant c.self.view_is c.args.rank c.group.result.now c.requires c.group.ensures

pub returns-clause-members : goal.returns-clause-members
returns-clause-members c = down_members c.args.self.now.edges c.args.rank c.group.result.now
    (down_read c.self.inside.ranks c.self.inside.table c.self.inside.lower c.args.self.now c.self.invariant c.self.view_is c.args.rank
    c.group.result.now c.requires c.group.ensures)

pub returns-clause-rising : goal.returns-clause-rising
returns-clause-rising c =
    let same : c.group.result.now ≡ down_of c.args.self.now.edges c.args.rank =
    down_read c.self.inside.ranks c.self.inside.table c.self.inside.lower c.args.self.now c.self.invariant c.self.view_is c.args.rank
    c.group.result.now c.requires c.group.ensures in
    subst IsStrictlyIncreasing (sym same) (down_increasing c.args.self.now
    (sound_read c.self.inside.ranks c.self.inside.table c.self.inside.lower c.args.self.now c.self.invariant c.self.view_is) c.args.rank)
