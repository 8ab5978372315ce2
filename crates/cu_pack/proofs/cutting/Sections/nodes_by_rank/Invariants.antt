-- The first numbers were read.
use Rattle.std.proofs.Common.{◌≡◌}
use Rattle.cu_pack.specs.Reading.{shorts_in}
use Rattle.cu_pack.proofs.cutting.Sections.nodes_by_rank.Given as goal

abbrev pub invariant-loop-rank : goal.invariant-loop-rank
invariant-loop-rank l = l.nodes.items ≡ shorts_in l.self 52 l.rank
