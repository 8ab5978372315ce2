use Rattle.std.proofs.Common.{take}
use Rattle.cu_chordal.specs.Steps.Checking.{StampsAll}
use Rattle.cu_chordal.proofs.checking.stamp_all.Given as goal

abbrev pub invariant-loop-candidate : goal.invariant-loop-candidate
invariant-loop-candidate l = StampsAll l.rank (take l.candidate-index l.candidates) l.initial.stamps l.count l.stamps l.total
