use Rattle.cu_chordal.proofs.Checked.{IsClimbing}
use Rattle.cu_chordal.proofs.checking.climbs.Given as goal

abbrev pub invariant-loop-upper : goal.invariant-loop-upper
invariant-loop-upper l = IsClimbing l.rank l.upper-index l.last l.stamps l.part
