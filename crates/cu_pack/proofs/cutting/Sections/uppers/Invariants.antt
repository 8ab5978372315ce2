-- The first numbers were read.
use Rattle.std.proofs.Common.{◌≡◌}
use Rattle.cu_pack.specs.Layouts.{uppers_at}
use Rattle.cu_pack.specs.Reading.{counts_in, shorts_in}
use Rattle.cu_pack.proofs.cutting.Sections.uppers.Given as goal

abbrev pub invariant-loop-edge : goal.invariant-loop-edge
invariant-loop-edge l = l.uppers.items ≡ shorts_in l.self (uppers_at (counts_in l.self)) l.edge
