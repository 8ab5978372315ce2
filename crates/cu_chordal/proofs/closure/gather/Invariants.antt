use Rattle.std.proofs.Common.{take}
use Rattle.cu_chordal.proofs.Gathering.{IsGathering}
use Rattle.cu_chordal.proofs.closure.gather.Given as goal

abbrev pub invariant-loop-candidate : goal.invariant-loop-candidate
invariant-loop-candidate l = IsGathering l.rank l.room (take l.candidate-index l.candidates) l.stamps l.initial.part.items l.part.items
