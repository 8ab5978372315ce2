use Rattle.std.proofs.Common.{◌<◌, arith, length}
use Rattle.cu_cli.proofs.TrialLaws.{downs_few, entries_more, ups_few}
use Rattle.cu_cli.proofs.commands.trial.count_entries.Goals as goal

pub edges-preserved : goal.edges-preserved
edges-preserved c =
    let h = c.args.view.now in
    let edge = c.edges.edge in
    let sound = c.edges-edge-end.ensures.sound in
    let end = c.edges-edge-end.ensures.count in
    let same = c.edges.auto.edge-end in
    let test = c.edges-test.true in
    let within : edge < length h.edges = omega (arith, end, same, test) in
    let more = entries_more h sound edge within in
    let up = c.from-entries.ensures in
    let ups = c.entries.ensures.count in
    let down = c.from-entries-in-edges.ensures in
    let downs = c.entries-in-edges.ensures.count in
    let few = ups_few h sound edge within in
    let fewer = downs_few h sound edge within in
    let before = c.edges.invariant.entries in
    let small = c.edges.invariant.small in
    record {
      entries = omega (arith, more, up, ups, down, downs, before);
      small = omega (arith, up, ups, down, downs, few, fewer, small);
    }
