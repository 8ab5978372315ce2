use Rattle.std.proofs.Common.{arith}
use Rattle.cu_day.proofs.rebuilding.DayRebuilt.new.Goals as goal

pub invariant_of-result : goal.invariant_of-result
invariant_of-result g c =
    let size = c.in_ok-rebuilt.ensures.size in
    let count = c.edges.ensures.count in
    (c.edges.ensures.sound, omega (arith, size, count), c.in_ok-rebuilt.ensures.none (g.W.Ways.hierarchy c.args.ways.now))
