use Rattle.std.proofs.Common.{arith}
use Rattle.cu_pack.proofs.checks.entries.has_entries.Goals as goal

pub overflow_add-list : goal.overflow_add-list
overflow_add-list c =
    let limits = c.requires.graph.roads.joined.ordered.sized.limited.limits in
    omega (arith, c.requires.list, limits.edges)
