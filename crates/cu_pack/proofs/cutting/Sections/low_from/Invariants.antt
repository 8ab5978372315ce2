use Rattle.std.proofs.Common.{◌≤◌}
use Rattle.cu_pack.specs.Reading.{edge_start}
use Rattle.cu_pack.proofs.cutting.Sections.low_from.Given as goal

abbrev pub invariant-loop-low : goal.invariant-loop-low
invariant-loop-low l = edge_start l.self l.low ≤ l.edge
