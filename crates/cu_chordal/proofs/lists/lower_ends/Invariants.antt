use Rattle.cu_chordal.proofs.Listed.{AreLowsBelow}
use Rattle.cu_chordal.proofs.lists.lower_ends.Given as goal

abbrev pub invariant-loop-rank : goal.invariant-loop-rank
invariant-loop-rank l = AreLowsBelow l.starts l.uppers l.rank l.lows.items
