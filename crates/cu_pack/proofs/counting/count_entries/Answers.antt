use Rattle.std.proofs.Common.{◌<◌, length, arith}
use Rattle.cu_pack.proofs.Numbering.Totals.{entries_in_limit, lists_more, lists_within}
use Rattle.cu_pack.proofs.counting.count_entries.Goals as goal

pub overflow_add-count-in-loop-edge : goal.overflow_add-count-in-loop-edge
overflow_add-count-in-loop-edge c =
    let h = c.args.hierarchy.now in
    let inside : c.loop-edge.edge < length h.edges = omega arith in
    let within = lists_within h c.entries.ensures.sound c.loop-edge.edge inside in
    let limit = entries_in_limit h c.entries.ensures.sound in
    omega (arith, within, limit, c.loop-edge.invariant, c.entries.ensures.count, c.entries-in-loop-edge.ensures.count, c.from-up.ensures, c.from-down.ensures)

pub loop-edge-preserved : goal.loop-edge-preserved
loop-edge-preserved c =
    let h = c.args.hierarchy.now in
    let inside : c.loop-edge.edge < length h.edges = omega arith in
    let more = lists_more h c.entries.ensures.sound c.loop-edge.edge inside in
    omega (arith, more, c.loop-edge.invariant, c.entries.ensures.count, c.entries-in-loop-edge.ensures.count, c.from-up.ensures, c.from-down.ensures)
