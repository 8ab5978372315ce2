-- The first numbers were read.
use Rattle.std.proofs.Common.{◌≡◌}
use Rattle.cu_pack.specs.Layouts.{edge_starts_at}
use Rattle.cu_pack.specs.Reading.{counts_in, shorts_in}
use Rattle.cu_pack.proofs.cutting.Sections.edge_starts.Given as goal

abbrev pub invariant-loop-rank : goal.invariant-loop-rank
invariant-loop-rank l = l.starts.items ≡ shorts_in l.self (edge_starts_at (counts_in l.self)) l.rank
