use Rattle.std.proofs.Common.{◌<◌, ◌+◌, false, length, get_or, take, sym, subst, arith}
use Rattle.std.proofs.lemmas.List.{take_more_set}
use Rattle.std.proofs.lemmas.List.{length-set}
use Rattle.std.proofs.lemmas.List.Elements.{Contains-get_or}
use Rattle.cu_chordal.proofs.Tables.{edge_within}
use Rattle.cu_reach.specs.Steps.Aiming.{AreGathered, IsMarked}
use Rattle.cu_reach.proofs.AimLaws.{gathered_pass, gathered_take, marked_other}
use Rattle.cu_reach.proofs.aiming.gather_one.Goals as goal

pub returns-then-not-marks-rank-clause-gathered : goal.returns-then-not-marks-rank-clause-gathered
returns-then-not-marks-rank-clause-gathered c first gathered =
    let marks = c.args.marks.now in
    gathered_pass c.args.rank marks (take c.args.count c.args.ranks.now) c.args.graph.now first
    (λ (on : IsMarked marks c.args.rank). let off = c.if-not-marks-rank.true in absurd (cc (on, off))) gathered

pub mark_all-requires : goal.mark_all-requires
mark_all-requires c k d lt =
    let graph = c.args.graph.now in
    let marks = c.args.marks.now in
    let rank = get_or c.up.result.now k d in
    let edge = (c.up.ensures.members rank).0 (Contains-get_or c.up.result.now k d lt) in
    let within = (edge_within graph c.up.ensures.sound c.args.rank rank edge).1 in
    let long = length-set marks c.args.rank false in
    omega (arith, within, long, c.requires.marks)

pub returns-clause-gathered : goal.returns-clause-gathered
returns-clause-gathered c first gathered =
    let marks = c.args.marks.now in
    let ranks = c.args.ranks.now in
    let rank = c.args.rank in
    let count = c.args.count in
    let graph = c.args.graph.now in
    let after = c.mark_all.new.marks in
    let within : count < length ranks = omega (arith, c.requires.few, c.requires.rank, c.requires.ranks) in
    subst (AreGathered graph first (rank + 1) after) (sym (take_more_set ranks count rank within))
    (gathered_take rank marks (take count ranks) graph first after c.up.ensures.sound
    (λ other apart on. c.mark_all.ensures.kept other (marked_other marks rank other false apart on))
    (λ high edge. c.mark_all.ensures.marked high ((c.up.ensures.members high).1 edge)) gathered)
