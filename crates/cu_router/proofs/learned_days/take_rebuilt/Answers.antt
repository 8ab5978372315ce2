use Rattle.std.proofs.Common.{arith}
use Rattle.cu_router.proofs.learned_days.take_rebuilt.Goals as goal

pub returns : goal.returns
returns g c =
    let size = c.in_ok-rebuilt.ensures.size in
    let count = c.edges.ensures.count in
    record { rebuilt = record { size = omega (arith, size, count); keeps = c.in_ok-rebuilt.ensures.none (g.W.Ways.hierarchy c.args.ways.now) } }
